use Rattle.std.proofs.Common.{◌≡◌, map, drop}
use Rattle.std.specs.Prelude.{max}
use Rattle.program_terms.specs.Terms.{term_rows_of, term_arms_of}
use Rattle.program_terms.specs.Views.{arm_tree, arms_tree, lens_tree, row_tree, rows_tree}
use Rattle.lens_types.specs.Sizes.{arms_size, lens_size, row_size, rows_size}
use Rattle.lens_forms.specs.Measures.{highest_row, highest_arm}
use Rattle.lens_types.specs.Earlier.{expanded_rows, expanded_arms}
use Rattle.lens_types.specs.Entries.{earlier_tree}
use Rattle.lens_types.specs.Heights.{capped}
use Rattle.lens_types.proofs.heights.+lens_height.Given as goal

abbrev pub invariant-rows_height-loop-row : goal.invariant-rows_height-loop-row
invariant-rows_height-loop-row l =
    max l.highest (capped (highest_row (expanded_rows (earlier_tree l.earlier) (term_rows_of (map row_tree (drop l.row-index l.row-items))))))
    ≡ capped (highest_row (expanded_rows (earlier_tree l.earlier) (term_rows_of (map row_tree l.row-items))))

abbrev pub invariant-arms_height-loop-arm : goal.invariant-arms_height-loop-arm
invariant-arms_height-loop-arm l =
    max l.highest (capped (highest_arm (expanded_arms (earlier_tree l.earlier) (term_arms_of (map arm_tree (drop l.arm-index l.arm-items))))))
    ≡ capped (highest_arm (expanded_arms (earlier_tree l.earlier) (term_arms_of (map arm_tree l.arm-items))))

abbrev pub decreases-lens_height : goal.decreases-lens_height
decreases-lens_height l = lens_size (lens_tree l.lens.now)

abbrev pub decreases-rows_height : goal.decreases-rows_height
decreases-rows_height l = rows_size (rows_tree l.rows.now)

abbrev pub decreases-row_height : goal.decreases-row_height
decreases-row_height l = row_size (row_tree l.row.now)

abbrev pub decreases-arms_height : goal.decreases-arms_height
decreases-arms_height l = arms_size (arms_tree l.arms.now)
