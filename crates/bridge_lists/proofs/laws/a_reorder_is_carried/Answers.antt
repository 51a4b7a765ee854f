use Rattle.std.specs.Prelude.{IsTrue}
use Rattle.bridge_lists.proofs.Theorems.{reorder-carries}
use Rattle.bridge_lists.proofs.laws.a_reorder_is_carried.Goals as goal

pub returns : goal.returns
returns c = λ r f m a b ls s t h e k o ab. reorder-carries (λ x y. IsTrue (r x y)) f m a b ls s t h e k o ab
