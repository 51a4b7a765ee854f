use Rattle.std.proofs.Common.{◌≡◌, map, take}
use Rattle.hold_shapes.specs.declared.origins.Origin.TheVariants.{Old}
use Rattle.hold_shapes.proofs.lists.origins_of.Given as goal

abbrev pub invariant-loop-place : goal.invariant-loop-place
invariant-loop-place l = l.from ≡ map Old (take l.place-index l.places)
