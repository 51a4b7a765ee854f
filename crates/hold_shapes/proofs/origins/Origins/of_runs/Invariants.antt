use Rattle.std.proofs.Common.{◌≡◌, take}
use Rattle.hold_shapes.specs.Runs.{all_origins}
use Rattle.hold_shapes.proofs.origins.Origins.of_runs.Given as goal

abbrev pub invariant-loop-run : goal.invariant-loop-run
invariant-loop-run l = l.from ≡ all_origins (take l.run-index l.runs)
