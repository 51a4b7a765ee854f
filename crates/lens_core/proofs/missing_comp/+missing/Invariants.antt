use Rattle.std.proofs.Common.{◌≡◌, ◌++◌, map, drop}
use Rattle.lens_forms.specs.Forms.{form_tree, row_tree, form_rows_of, rows_tree, arms_tree}
use Rattle.lens_core.specs.Complements.{comp_tree, comp_list, missing_rows}
use Rattle.lens_forms.specs.Measures.{form_parts, rows_parts, arms_parts}
use Rattle.lens_core.proofs.missing_comp.+missing.Given as goal

abbrev pub decreases-missing : goal.decreases-missing
decreases-missing l = form_parts (form_tree l.form.now)

abbrev pub decreases-missing_rows : goal.decreases-missing_rows
decreases-missing_rows l = rows_parts (rows_tree l.rows.now)

abbrev pub decreases-missing_arm : goal.decreases-missing_arm
decreases-missing_arm l = arms_parts (arms_tree l.arms.now)

abbrev pub invariant-missing_rows-loop-row : goal.invariant-missing_rows-loop-row
invariant-missing_rows-loop-row l =
    map comp_tree l.items.items ++ comp_list (missing_rows (form_rows_of (map row_tree (drop l.row-index l.row-items))))
    ≡ comp_list (missing_rows (form_rows_of (map row_tree l.row-items)))
