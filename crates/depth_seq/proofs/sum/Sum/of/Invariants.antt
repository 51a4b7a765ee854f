use Rattle.std.proofs.Common.{take}
use Rattle.depth_seq.specs.Sums.{AreSums}
use Rattle.depth_seq.proofs.sum.Sum.of.Given as goal

abbrev pub invariant-loop-i : goal.invariant-loop-i
invariant-loop-i l = AreSums l.sum (take l.i l.depths)
