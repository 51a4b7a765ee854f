use Rattle.std.proofs.Common.{◌≡◌, ◌+◌, ◌*◌, map}
use Rattle.lens_forms.specs.Forms.{form_tree, rows_tree, row_tree, form_rows_of, arms_tree, arm_tree, form_arms_of}
use Rattle.lens_forms.specs.Measures.{form_parts, rows_parts, arms_parts}
use Rattle.lens_core.specs.Complements.{comp_tree, comps_tree}
use Rattle.lens_check.specs.FitTest.{all_pass, fits, rows_fit, arm_fits}
use Rattle.lens_check.proofs.FitLoops.{pass_from, rows_from, arm_from}
use Rattle.lens_check.proofs.fit.+fits_form.Given as goal

abbrev pub decreases-fits_form : goal.decreases-fits_form
decreases-fits_form l = 2 * form_parts (form_tree l.form.now)

abbrev pub decreases-fits_rows : goal.decreases-fits_rows
decreases-fits_rows l = 2 * rows_parts (rows_tree l.rows.now) + 1

abbrev pub decreases-fits_arm : goal.decreases-fits_arm
decreases-fits_arm l = 2 * arms_parts (arms_tree l.arms.now) + 1

abbrev pub decreases-fits_each : goal.decreases-fits_each
decreases-fits_each l = 2 * form_parts (form_tree l.inner.now) + 1

abbrev pub invariant-fits_rows-loop-row : goal.invariant-fits_rows-loop-row
invariant-fits_rows-loop-row l =
    rows_from l.row-items (comps_tree l.comps) l.row-index l.next ≡ rows_fit (form_rows_of (map row_tree l.row-items)) (comps_tree l.comps)

abbrev pub invariant-fits_arm-loop-arm : goal.invariant-fits_arm-loop-arm
invariant-fits_arm-loop-arm l =
    arm_from l.arm-items l.tag (comp_tree l.part) l.arm-index ≡ arm_fits (form_arms_of (map arm_tree l.arm-items)) l.tag (comp_tree l.part)

abbrev pub invariant-fits_each-loop-i : goal.invariant-fits_each-loop-i
invariant-fits_each-loop-i l =
    pass_from (fits (form_tree l.inner)) (comps_tree l.comps) l.i ≡ all_pass (fits (form_tree l.inner)) (comps_tree l.comps)
