use Rattle.std.proofs.Common.{◌+◌, ◌*◌, length, map}
use Rattle.program_terms.specs.Views.{row_tree, arm_tree}
use Rattle.program_grammar.specs.Reading.{list_at, type_at, lens_at, row_at, arm_at}
use Rattle.program_reader.proofs.ListLoop.{IsSoFar}
use Rattle.program_reader.proofs.lenses.+lenses.Given as goal

abbrev pub decreases-read_lens : goal.decreases-read_lens
decreases-read_lens l = 8 * l.room

abbrev pub decreases-read_arm : goal.decreases-read_arm
decreases-read_arm l = 8 * l.room + 1

abbrev pub decreases-read_inner_lens : goal.decreases-read_inner_lens
decreases-read_inner_lens l = 8 * l.room + 1

abbrev pub decreases-read_then : goal.decreases-read_then
decreases-read_then l = 8 * l.room + 2

abbrev pub decreases-read_both_row : goal.decreases-read_both_row
decreases-read_both_row l = 8 * l.room + 2

abbrev pub decreases-read_row : goal.decreases-read_row
decreases-read_row l = 8 * l.room + 3

abbrev pub decreases-read_rows : goal.decreases-read_rows
decreases-read_rows l = 8 * l.room + 4

abbrev pub decreases-read_arms : goal.decreases-read_arms
decreases-read_arms l = 8 * l.room + 3

abbrev pub decreases-read_closed_arms : goal.decreases-read_closed_arms
decreases-read_closed_arms l = 8 * l.room + 4

abbrev pub decreases-read_perhaps_rows : goal.decreases-read_perhaps_rows
decreases-read_perhaps_rows l = 8 * l.room + 5

abbrev pub decreases-read_mark_lens : goal.decreases-read_mark_lens
decreases-read_mark_lens l = 8 * l.room + 6

abbrev pub decreases-read_word_lens : goal.decreases-read_word_lens
decreases-read_word_lens l = 8 * l.room + 6

abbrev pub decreases-read_begun_lens : goal.decreases-read_begun_lens
decreases-read_begun_lens l = 8 * l.room + 7

abbrev pub invariant-read_rows-rows : goal.invariant-read_rows-rows
invariant-read_rows-rows l = IsSoFar (row_at (type_at l.room) (lens_at l.room)) (map row_tree l.rows.items) l.reader (list_at (row_at (type_at l.room) (lens_at l.room)) l.fn.reader)

abbrev pub decreases-read_rows-rows : goal.decreases-read_rows-rows
decreases-read_rows-rows l = length l.reader.1

abbrev pub invariant-read_arms-arms : goal.invariant-read_arms-arms
invariant-read_arms-arms l = IsSoFar (arm_at (lens_at l.room)) (map arm_tree l.arms.items) l.reader (list_at (arm_at (lens_at l.room)) l.fn.reader)

abbrev pub decreases-read_arms-arms : goal.decreases-read_arms-arms
decreases-read_arms-arms l = length l.reader.1
