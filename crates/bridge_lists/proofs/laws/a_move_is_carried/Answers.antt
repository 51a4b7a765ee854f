use Rattle.std.specs.Prelude.{IsTrue}
use Rattle.bridge_lists.proofs.Theorems.{move-carries}
use Rattle.bridge_lists.proofs.laws.a_move_is_carried.Goals as goal

pub returns : goal.returns
returns c = λ r i j m a b ls s t q h e p k ab w. move-carries (λ x y. IsTrue (r x y)) i j m a b ls s t q h e p k ab w
