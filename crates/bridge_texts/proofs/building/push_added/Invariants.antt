use Rattle.std.proofs.Common.{◌≡◌, drop}
use Rattle.bridge_texts.specs.Runs.{add_runs, all_added}
use Rattle.bridge_texts.proofs.building.push_added.Given as goal

abbrev pub invariant-loop-run : goal.invariant-loop-run
invariant-loop-run l = add_runs l.runs.items (all_added (drop l.run-index l.part)) ≡ add_runs l.fn.runs.items (all_added l.fn.part)
