use Rattle.std.specs.Prelude.{IsTrue}
use Rattle.bridge_lists.proofs.Edits.{change-carries, change-gone}
use Rattle.bridge_lists.proofs.laws.a_change_is_carried.Goals as goal

pub returns : goal.returns
returns c = record {
  kept = λ r m x y a b ls s t h g ab. change-carries (λ x' y'. IsTrue (r x' y')) m x y a b ls s t h g ab;
  gone = λ r m x y ls s t h e g k. change-gone (λ x' y'. IsTrue (r x' y')) m x y ls s t h e g k;
}
