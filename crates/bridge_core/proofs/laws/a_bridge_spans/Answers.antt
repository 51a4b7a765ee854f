use Rattle.bridge_core.proofs.BridgeSpans.{word-bridges}
use Rattle.bridge_core.proofs.laws.a_bridge_spans.Goals as goal

pub returns : goal.returns
returns c = λ t w b s v u sound near far h e. word-bridges c.a_text_is_spanned.ensures c.a_splice_of_the_far_text_is_spanned.ensures w t b s v u sound near far h e
