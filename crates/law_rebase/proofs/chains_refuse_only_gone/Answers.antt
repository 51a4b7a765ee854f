use Rattle.law_rebase.proofs.ChainsOfBridges.{only_gone}
use Rattle.law_rebase.proofs.chains_refuse_only_gone.Goals as goal

pub returns : goal.returns
returns c = λ t bs w s u v way why fits acts e. only_gone c.a_carried_word_acts.ensures c.only_what_is_gone_is_refused.ensures t bs w s u v way why fits acts e
