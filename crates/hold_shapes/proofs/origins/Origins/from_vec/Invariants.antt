use Rattle.std.proofs.Common.{◌≡◌, take}
use Rattle.hold_shapes.proofs.origins.Origins.from_vec.Given as goal

abbrev pub invariant-loop-origin : goal.invariant-loop-origin
invariant-loop-origin l = l.from ≡ take l.origin-index l.origin-items
