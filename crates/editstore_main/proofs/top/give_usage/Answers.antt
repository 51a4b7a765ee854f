use Rattle.std.proofs.Common.{inr, refl}
use Rattle.editstore_main.proofs.top.give_usage.Goals as goal

pub returns-in-Err-clause-given : goal.returns-in-Err-clause-given
returns-in-Err-clause-given g c = inr (refl, rw c.as_bytes.ensures.value at c.in-Err.ensures.front)
