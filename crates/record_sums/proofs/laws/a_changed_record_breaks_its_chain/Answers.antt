use Rattle.record_sums.proofs.ChainBreaks.{chain-kept, chain-rewritten}
use Rattle.record_sums.proofs.laws.a_changed_record_breaks_its_chain.Goals as goal

pub returns : goal.returns
returns c = record {
  kept = λ before number front back it changed h k d same chain intact. chain-kept before number front back it changed h k d same chain intact;
  rewritten = λ before number front back it changed next h k m d chain other. chain-rewritten before number front back it changed next h k m d chain other;
}
