use Rattle.law_rebase.proofs.ChainsOfBridges.{chain_acts}
use Rattle.law_rebase.proofs.chains_act.Goals as goal

pub returns : goal.returns
returns c = λ t bs w q s u v way fits acts e. chain_acts c.a_carried_word_acts.ensures t bs w q s u v way fits acts e
