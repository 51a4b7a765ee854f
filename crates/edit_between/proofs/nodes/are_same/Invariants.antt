use Rattle.std.proofs.Common.{◌≡◌, take}
use Rattle.edit_between.proofs.nodes.are_same.Given as goal

abbrev pub invariant-loop-i : goal.invariant-loop-i
invariant-loop-i l = take l.i l.depths ≡ take l.i l.others
