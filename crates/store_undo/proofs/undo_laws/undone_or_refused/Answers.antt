use Rattle.store_undo.proofs.Decided.{undone_in, not_undone, nothing_if, stood_earlier}
use Rattle.store_undo.proofs.undo_laws.undone_or_refused.Goals as goal

pub returns-clause-undone : goal.returns-clause-undone
returns-clause-undone c count bytes none = undone_in count bytes none

pub returns-clause-refused : goal.returns-clause-refused
returns-clause-refused c count held refusal q = not_undone count held refusal q

pub returns-clause-nothing : goal.returns-clause-nothing
returns-clause-nothing c count held q = nothing_if count held q

pub returns-clause-before : goal.returns-clause-before
returns-clause-before c count held u h = stood_earlier count held u h
