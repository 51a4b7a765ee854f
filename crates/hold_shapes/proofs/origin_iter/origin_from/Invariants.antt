use Rattle.std.proofs.Common.{◌≡◌, drop}
use Rattle.hold_shapes.specs.Runs.{all_origins}
use Rattle.hold_shapes.proofs.origin_iter.origin_from.Given as goal

abbrev pub invariant-loop-i : goal.invariant-loop-i
invariant-loop-i l = drop l.left (all_origins (drop l.i l.runs)) ≡ drop l.place (all_origins (drop l.number l.runs))
