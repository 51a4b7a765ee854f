use Rattle.hub_undo.proofs.Decided.{undone_or_refused}
use Rattle.hub_undo.proofs.laws.hub_undone_or_refused.Goals as goal

pub returns : goal.returns
returns c = λ count held. undone_or_refused count held
