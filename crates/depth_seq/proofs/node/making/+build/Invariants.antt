use Rattle.std.proofs.Common.{length}
use Rattle.depth_seq.proofs.node.making.+build.Given as goal

abbrev pub decreases-build : goal.decreases-build
decreases-build l = length l.list.now
