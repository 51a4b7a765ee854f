use Rattle.std.proofs.Common.{◌≡◌, ◌+◌, drop}
use Rattle.bridge_texts.specs.declared.run.End.TheVariants.{Far}
use Rattle.bridge_texts.specs.Runs.{total}
use Rattle.bridge_texts.proofs.building.far_total.Given as goal

abbrev pub invariant-loop-run : goal.invariant-loop-run
invariant-loop-run l = l.sum + total Far (drop l.run-index l.runs) ≡ total Far l.fn.runs
