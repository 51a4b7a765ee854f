use Rattle.std.proofs.Common.{◌≡◌, drop}
use Rattle.bridge_texts.specs.Runs.{add_runs}
use Rattle.bridge_texts.proofs.building.push_all.Given as goal

abbrev pub invariant-loop-run : goal.invariant-loop-run
invariant-loop-run l = add_runs l.runs.items (drop l.run-index l.more) ≡ add_runs l.fn.runs.items l.fn.more
