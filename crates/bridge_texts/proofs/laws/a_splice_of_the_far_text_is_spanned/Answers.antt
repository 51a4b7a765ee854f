use Rattle.bridge_texts.proofs.Bridges.{far-bridge}
use Rattle.bridge_texts.proofs.laws.a_splice_of_the_far_text_is_spanned.Goals as goal

pub returns : goal.returns
returns c = far-bridge
