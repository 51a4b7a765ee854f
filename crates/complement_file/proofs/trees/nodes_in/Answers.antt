use Rattle.std.proofs.Common.{codes, refl}
use Rattle.serde_json.specs.View.{view}
use Rattle.complement_file.proofs.TreeParts.{nodes_found_in, same_texts}
use Rattle.complement_file.proofs.trees.nodes_in.Goals as goal
use Rattle.texts.proofs.Tests.{bytes_eq-is}

pub returns : goal.returns
returns c =
    let first = c.in_ok-first_name.first_name.now in
    let last = c.in_ok-first_name.last_name.now in
    let depths = bytes_eq-is first (codes "depths") (same_texts c.ne.result first (codes "depths") first (codes "depths") c.if-ne.false c.ne.ensures refl refl) in
    let items = bytes_eq-is last (codes "items") (same_texts c.ne-else-ne.result last (codes "items") last (codes "items") c.if-ne-2.false c.ne-else-ne.ensures refl refl) in
    nodes_found_in _ (view c.in_ok-content.content.now) first last (view c.in_ok-first_name.depths.now) (view c.in_ok-first_name.items.now) _ _ c.in_ok-content.ensures c.in_ok-first_name.ensures depths items c.in_ok-as_array.ensures c.in_ok-as_array-2.ensures
