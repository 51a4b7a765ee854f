use Rattle.hub_records.proofs.LowForms.{accepted_low}
use Rattle.hub_records.proofs.laws.accepted_changes_are_shallow.Goals as goal

pub returns : goal.returns
returns c = λ forms before after change words low is. accepted_low forms low before change (after, words) is
