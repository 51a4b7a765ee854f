use Rattle.embed_session.proofs.LogRecords.{accepted_made}
use Rattle.embed_session.proofs.laws.accepted_is_made.Goals as goal

pub returns : goal.returns
returns c = accepted_made
