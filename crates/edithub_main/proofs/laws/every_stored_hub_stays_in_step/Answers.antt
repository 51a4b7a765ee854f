use Rattle.edithub_main.proofs.HubsInStep.{stays_in_step}
use Rattle.edithub_main.proofs.laws.every_stored_hub_stays_in_step.Goals as goal

pub returns : goal.returns
returns c = stays_in_step
