use Rattle.std.proofs.Common.{◌≡◌, ◌<◌, drop, length}
use Rattle.std.specs.Prelude.{slice_get}
use Rattle.hold_shapes.specs.Runs.{all_origins}
use Rattle.hold_shapes.proofs.origins.Origins.get.Given as goal

abbrev pub invariant-loop-i : goal.invariant-loop-i
invariant-loop-i l =
    (slice_get (all_origins (drop l.i l.runs)) l.left ≡ slice_get (all_origins l.runs) l.place)
    × (l.left < length (all_origins (drop l.i l.runs)))
