use Rattle.std.specs.Prelude.{IsTrue}
use Rattle.bridge_lists.proofs.Theorems.{del-carries}
use Rattle.bridge_lists.proofs.laws.a_deletion_is_carried.Goals as goal

pub returns : goal.returns
returns k = λ r c m a b ls s t h e i p ab. del-carries (λ x y. IsTrue (r x y)) c m a b ls s t h e i p ab
