use Rattle.std.proofs.Common.{◌≡◌, ◌+◌, ◌++◌, map, take, drop}
use Rattle.program_terms.specs.Terms.{term_rows_of, term_arms_of}
use Rattle.program_terms.specs.Views.{arm_tree, arms_tree, lens_tree, row_tree, rows_tree}
use Rattle.lens_forms.specs.Forms.{form_row_list, form_arm_list, row_tree as form_row, arm_tree as form_arm}
use Rattle.lens_types.specs.Sizes.{arms_size, lens_size, row_size, rows_size}
use Rattle.lens_types.specs.Earlier.{expanded_rows, expanded_arms}
use Rattle.lens_types.specs.Entries.{earlier_tree, weight_before}
use Rattle.lens_types.proofs.expansion.+expanded_lens.Given as goal

abbrev pub invariant-expanded_rows-loop-row : goal.invariant-expanded_rows-loop-row
invariant-expanded_rows-loop-row l =
    map form_row l.items.items ++ form_row_list (expanded_rows (take l.scope (earlier_tree l.earlier)) (term_rows_of (map row_tree (drop l.row-index l.row-items))))
    ≡ form_row_list (expanded_rows (take l.scope (earlier_tree l.earlier)) (term_rows_of (map row_tree l.row-items)))

abbrev pub invariant-expanded_arms-loop-arm : goal.invariant-expanded_arms-loop-arm
invariant-expanded_arms-loop-arm l =
    map form_arm l.items.items ++ form_arm_list (expanded_arms (take l.scope (earlier_tree l.earlier)) (term_arms_of (map arm_tree (drop l.arm-index l.arm-items))))
    ≡ form_arm_list (expanded_arms (take l.scope (earlier_tree l.earlier)) (term_arms_of (map arm_tree l.arm-items)))

abbrev pub decreases-expanded_lens : goal.decreases-expanded_lens
decreases-expanded_lens l = weight_before l.scope l.earlier.now + lens_size (lens_tree l.lens.now)

abbrev pub decreases-expanded_rows : goal.decreases-expanded_rows
decreases-expanded_rows l = weight_before l.scope l.earlier.now + rows_size (rows_tree l.rows.now)

abbrev pub decreases-expanded_row : goal.decreases-expanded_row
decreases-expanded_row l = weight_before l.scope l.earlier.now + row_size (row_tree l.row.now)

abbrev pub decreases-expanded_arms : goal.decreases-expanded_arms
decreases-expanded_arms l = weight_before l.scope l.earlier.now + arms_size (arms_tree l.arms.now)
