use Rattle.std.proofs.Common.{◌≤◌, ap, ◌∙◌, arith, rules}
use Rattle.serde_json.specs.Data.{depth}
use Rattle.serde_json.specs.Written.{has_float}
use Rattle.lens_core.specs.Complements.{comp_tree}
use Rattle.lens_forms.specs.Forms.{form_tree}
use Rattle.lens_forms.specs.Measures.{form_height}
use Rattle.lens_forms.specs.declared.limits.TheConstants.{GREATEST_HEIGHT}
use Rattle.complement_file.proofs.Floats.{whole}
use Rattle.store_records.proofs.ComplementDepths.{low}
use Rattle.store_undo.proofs.tree_texts.complement_text.Goals as goal

pub text_of-requires-clause-whole : goal.text_of-requires-clause-whole
text_of-requires-clause-whole c = ap has_float c.in_ok-tree.ensures.tree ∙ whole (form_tree c.args.typed.now) (comp_tree c.args.comp.now)

pub text_of-requires-clause-low : goal.text_of-requires-clause-low
text_of-requires-clause-low c =
    let l = form_tree c.args.typed.now in
    let high : form_height l ≤ GREATEST_HEIGHT = search rules in
    let same = ap depth c.in_ok-tree.ensures.tree in
    omega (arith, same, low l (comp_tree c.args.comp.now), high)
