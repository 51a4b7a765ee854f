use Rattle.law_hubs.proofs.HubRunsExist.{run_exists}
use Rattle.law_hubs.proofs.every_hub_run_exists.Goals as goal

pub returns : goal.returns
returns c = run_exists
