use Rattle.store_session.proofs.AcceptedDepths.{accepted_low}
use Rattle.store_session.proofs.standing_laws.accepted_changes_are_shallow.Goals as goal

pub returns : goal.returns
returns c = accepted_low
