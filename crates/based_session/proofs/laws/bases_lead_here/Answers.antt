use Rattle.based_session.proofs.BaseLaws.{lead_here}
use Rattle.based_session.proofs.laws.bases_lead_here.Goals as goal

pub returns : goal.returns
returns c = λ left right b base side ks h e. lead_here left right b base side ks h e
