use Rattle.std.proofs.Common.{length}
use Rattle.shared_lists.proofs.splices.+build.Given as goal

abbrev pub decreases-build : goal.decreases-build
decreases-build g l = length l.trees.now
