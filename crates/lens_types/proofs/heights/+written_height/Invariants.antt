use Rattle.std.proofs.Common.{◌≡◌, map, drop}
use Rattle.std.specs.Prelude.{max}
use Rattle.program_terms.specs.Terms.{term_rows_of, term_arms_of}
use Rattle.program_terms.specs.Views.{arm_tree, arms_tree, lens_tree, row_tree, rows_tree}
use Rattle.lens_types.specs.Sizes.{arms_size, lens_size, row_size, rows_size}
use Rattle.lens_types.specs.Checking.{rows_written, arms_written}
use Rattle.lens_types.specs.Entries.{earlier_tree}
use Rattle.lens_types.specs.Heights.{capped}
use Rattle.lens_types.proofs.heights.+written_height.Given as goal

abbrev pub invariant-rows_written-loop-row : goal.invariant-rows_written-loop-row
invariant-rows_written-loop-row l =
    max l.highest (capped (rows_written (earlier_tree l.earlier) (term_rows_of (map row_tree (drop l.row-index l.row-items)))))
    ≡ capped (rows_written (earlier_tree l.earlier) (term_rows_of (map row_tree l.row-items)))

abbrev pub invariant-arms_written-loop-arm : goal.invariant-arms_written-loop-arm
invariant-arms_written-loop-arm l =
    max l.highest (capped (arms_written (earlier_tree l.earlier) (term_arms_of (map arm_tree (drop l.arm-index l.arm-items)))))
    ≡ capped (arms_written (earlier_tree l.earlier) (term_arms_of (map arm_tree l.arm-items)))

abbrev pub decreases-written_height : goal.decreases-written_height
decreases-written_height l = lens_size (lens_tree l.lens.now)

abbrev pub decreases-rows_written : goal.decreases-rows_written
decreases-rows_written l = rows_size (rows_tree l.rows.now)

abbrev pub decreases-row_written : goal.decreases-row_written
decreases-row_written l = row_size (row_tree l.row.now)

abbrev pub decreases-arms_written : goal.decreases-arms_written
decreases-arms_written l = arms_size (arms_tree l.arms.now)
