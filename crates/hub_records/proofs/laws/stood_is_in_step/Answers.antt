use Rattle.hub_records.proofs.StoodInStep.{stood_sound}
use Rattle.hub_records.proofs.laws.stood_is_in_step.Goals as goal

pub returns-clause-typed : goal.returns-clause-typed
returns-clause-typed c = λ ps s h. (stood_sound ps s h).0

pub returns-clause-in_step : goal.returns-clause-in_step
returns-clause-in_step c = λ ps s h. (stood_sound ps s h).1
