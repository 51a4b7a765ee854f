use Rattle.std.proofs.Common.{◌≡◌, ◌+◌, ◌*◌, map}
use Rattle.edit_module.specs.Words.{word_of}
use Rattle.edit_module.specs.Views.{primitive_tree, word_tree}
use Rattle.lens_forms.specs.Forms.{form_tree, rows_tree, arms_tree}
use Rattle.lens_forms.specs.Measures.{form_parts, rows_parts, arms_parts}
use Rattle.lens_core.specs.Complements.{comp_tree}
use Rattle.lens_core.specs.Translation.{translate}
use Rattle.lens_steps.proofs.WordSteps.{left_to_do}
use Rattle.lens_run.proofs.run.+carry.Given as goal

abbrev pub decreases-carry_word : goal.decreases-carry_word
decreases-carry_word l = 4 * form_parts (form_tree l.form.now) + 2

abbrev pub decreases-carry_one : goal.decreases-carry_one
decreases-carry_one l = 4 * form_parts (form_tree l.form.now) + 1

abbrev pub decreases-carry_then : goal.decreases-carry_then
decreases-carry_then l = 4 * form_parts (form_tree l.first.now) + 4 * form_parts (form_tree l.second.now) + 4

abbrev pub decreases-carry_record : goal.decreases-carry_record
decreases-carry_record l = 4 * rows_parts (rows_tree l.rows.now) + 4

abbrev pub decreases-carry_row : goal.decreases-carry_row
decreases-carry_row l = 4 * rows_parts (rows_tree l.rows.now) + 3

abbrev pub decreases-carry_alternatives : goal.decreases-carry_alternatives
decreases-carry_alternatives l = 4 * arms_parts (arms_tree l.arms.now) + 4

abbrev pub decreases-carry_arm : goal.decreases-carry_arm
decreases-carry_arm l = 4 * arms_parts (arms_tree l.arms.now) + 3

abbrev pub decreases-carry_held : goal.decreases-carry_held
decreases-carry_held l = 4 * form_parts (form_tree l.inner.now) + 3

abbrev pub invariant-carry_word-loop-primitive : goal.invariant-carry_word-loop-primitive
invariant-carry_word-loop-primitive l =
    left_to_do (form_tree l.form) l.side (comp_tree l.current) (word_tree l.carried) l.primitives l.primitive-index
    ≡ translate (form_tree l.form) l.side (comp_tree l.comp) (word_of (map primitive_tree l.primitives))
