use Rattle.std.proofs.Common.{sym, arith}
use Rattle.serde_json.specs.View.{view}
use Rattle.doc_values.specs.Types.{fields_tree}
use Rattle.lens_core.proofs.Tags.{tag_count-parts}
use Rattle.complement_file.proofs.ReadTags.{is_tag, no_text, no_tag, tag_found}
use Rattle.complement_file.proofs.numbers.tag_number.Goals as goal

pub returns-in_err-name : goal.returns-in_err-name
returns-in_err-name c = rw c.from_residual.ensures (no_text (fields_tree c.args.tags.now) (view c.args.item.now) c.in_err-name.ensures)

pub returns-in_err-place : goal.returns-in_err-place
returns-in_err-place c =
    rw c.from_residual-in_err-place.ensures (no_tag (fields_tree c.args.tags.now) (view c.args.item.now) _ c.in_ok-name.ensures (sym c.in_err-place.ensures))

pub overflow_cast-result : goal.overflow_cast-result
overflow_cast-result c =
    let tags = fields_tree c.args.tags.now in
    let low = (tag_found tags _ _ (sym c.in_ok-place.ensures)).0 in
    let few = tag_count-parts tags in
    let small = c.requires.small in
    omega (arith, low, few, small)

pub returns : goal.returns
returns c = is_tag (fields_tree c.args.tags.now) (view c.args.item.now) _ _ c.in_ok-name.ensures (sym c.in_ok-place.ensures)
