use Rattle.hub_run.proofs.FormsInStep.{accepted_in_step}
use Rattle.hub_run.proofs.laws.runs_stay_in_step.Goals as goal

pub returns : goal.returns
returns c = accepted_in_step
