use Rattle.based_session.proofs.BaseLaws.{only_gone_at}
use Rattle.based_session.proofs.laws.only_what_is_gone_is_refused_at.Goals as goal

pub returns : goal.returns
returns c = λ t b base side ks w s u v way why room kept fits acts e. only_gone_at c.chains_refuse_only_gone.ensures t b base side ks w s u v way why room kept fits acts e
