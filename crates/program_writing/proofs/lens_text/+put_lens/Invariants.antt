use Rattle.std.proofs.Common.{◌≡◌, ◌+◌, ◌*◌, ◌++◌, [], drop, map, List, ℕ, string_bytes}
use Rattle.program_terms.specs.Terms.{term_rows_of, term_arms_of}
use Rattle.program_terms.specs.Views.{lens_tree, row_tree, rows_tree, arm_tree, arms_tree}
use Rattle.program_writing.specs.Canonical.{put_rows, put_arms}
use Rattle.program_writing.specs.Puts.{comma}
use Rattle.program_terms.proofs.Levels.{lens_levels, levels_of_row, row_levels, arm_levels}
use Rattle.program_writing.proofs.lens_text.+put_lens.Given as goal

abbrev pub decreases-put_lens : goal.decreases-put_lens
decreases-put_lens l = 3 * lens_levels (lens_tree l.lens.now)

abbrev pub decreases-put_row : goal.decreases-put_row
decreases-put_row l = 3 * levels_of_row (row_tree l.row.now) + 1

abbrev pub decreases-put_rows : goal.decreases-put_rows
decreases-put_rows l = 3 * row_levels (rows_tree l.rows.now) + 2

abbrev pub decreases-put_arms : goal.decreases-put_arms
decreases-put_arms l = 3 * arm_levels (arms_tree l.arms.now) + 2

abbrev pub invariant-put_rows-loop-row : goal.invariant-put_rows-loop-row
invariant-put_rows-loop-row l = (rest : List ℕ) → string_bytes l.out ++ put_rows (comma l.first) (term_rows_of (map row_tree (drop l.row-index l.row-items))) rest ≡ string_bytes l.fn.out ++ put_rows [] (term_rows_of (map row_tree l.row-items)) rest

abbrev pub invariant-put_arms-loop-arm : goal.invariant-put_arms-loop-arm
invariant-put_arms-loop-arm l = (rest : List ℕ) → string_bytes l.out ++ put_arms (comma l.first) (term_arms_of (map arm_tree (drop l.arm-index l.arm-items))) rest ≡ string_bytes l.fn.out ++ put_arms [] (term_arms_of (map arm_tree l.arm-items)) rest
