use Rattle.std.proofs.Common.{sym, refl, arith}
use Rattle.serde_json.specs.Data.{string}
use Rattle.doc_values.specs.Types.{fields_tree}
use Rattle.lens_core.proofs.Tags.{tag_count-parts}
use Rattle.complement_file.proofs.ReadTags.{is_tag, tag_found}
use Rattle.complement_file.proofs.tokens.tag_called.Goals as goal

pub overflow_cast-result : goal.overflow_cast-result
overflow_cast-result c =
    let tags = fields_tree c.args.tags.now in
    let low = (tag_found tags _ _ (sym c.in_ok-place.ensures)).0 in
    let few = tag_count-parts tags in
    let small = c.requires.small in
    omega (arith, low, few, small)

pub returns : goal.returns
returns c = is_tag (fields_tree c.args.tags.now) (string c.args.name.now) c.args.name.now _ refl (sym c.in_ok-place.ensures)
