use Rattle.law_hubs.proofs.HubsApplied.{hubs_alike}
use Rattle.law_hubs.proofs.a_hub_is_numbered_alike.Goals as goal

pub returns : goal.returns
returns c = hubs_alike
