use Rattle.based_session.proofs.BaseLaws.{words_act}
use Rattle.based_session.proofs.laws.carried_words_act.Goals as goal

pub returns : goal.returns
returns c = λ t b base side ks w q s u v way room kept fits acts e. words_act c.chains_act.ensures t b base side ks w q s u v way room kept fits acts e
