use Rattle.bridge_core.proofs.OnlyGone.{word-refuses}
use Rattle.bridge_core.proofs.laws.only_what_is_gone_is_refused.Goals as goal

pub returns : goal.returns
returns c = λ t w b s v why h e k. word-refuses c.a_splice_of_the_near_text_is_carried.ensures w t b s h.0 v why h.1 e k
