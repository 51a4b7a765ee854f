use Rattle.std.proofs.Common.{take}
use Rattle.hub_run.specs.RunStates.{forms_of_lenses}
use Rattle.hub_records.specs.LowForms.{AllLow}
use Rattle.hub_records.proofs.low.lenses_are_low.Given as goal

abbrev pub invariant-loop-lens : goal.invariant-loop-lens
invariant-loop-lens l = AllLow (forms_of_lenses (take l.lens-index l.lenses))
