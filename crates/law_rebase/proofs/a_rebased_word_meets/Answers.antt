use Rattle.law_rebase.proofs.CarriedWords.{meets}
use Rattle.law_rebase.proofs.a_rebased_word_meets.Goals as goal

pub returns : goal.returns
returns c = λ t p q s u v r sound h texts acts_p acts_q carried. meets c.joined_acts_in_turn.ensures c.inverse_takes_back.ensures t p q s u v r sound h texts acts_p acts_q carried
