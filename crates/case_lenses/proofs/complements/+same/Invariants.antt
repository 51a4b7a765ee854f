use Rattle.std.proofs.Common.{◌+◌, ◌*◌}
use Rattle.case_lenses.proofs.complements.+same.Given as goal

abbrev pub decreases-same_within : goal.decreases-same_within
decreases-same_within l = 2 * l.room

abbrev pub decreases-same_lists : goal.decreases-same_lists
decreases-same_lists l = 2 * l.room + 1
