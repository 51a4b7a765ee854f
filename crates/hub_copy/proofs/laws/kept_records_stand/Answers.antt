use Rattle.hub_copy.proofs.laws.kept_records_stand.Goals as goal
use Rattle.hub_copy.proofs.KeptStand.{kept_stand}

pub returns : goal.returns
returns c = λ number payloads all some stands. kept_stand number payloads all some stands
