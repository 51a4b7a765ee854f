use Rattle.bridge_core.proofs.CarriedActs.{word-carries}
use Rattle.bridge_core.proofs.laws.a_carried_word_acts.Goals as goal

pub returns : goal.returns
returns c = λ t w b s u v q h e k. word-carries c.a_splice_of_the_near_text_is_carried.ensures w t b s u v q h e k
