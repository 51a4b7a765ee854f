use Rattle.std.specs.Prelude.{IsTrue}
use Rattle.bridge_lists.proofs.Theorems.{ins-carries}
use Rattle.bridge_lists.proofs.laws.an_insertion_is_carried.Goals as goal

pub returns : goal.returns
returns k = λ r c m a b ls s t h e i ab. ins-carries (λ x y. IsTrue (r x y)) c m a b ls s t h e i ab
