use Rattle.embed_session.specs.Steps.{session_form}
use Rattle.embed_session.proofs.MadeChanges.{not_undone}
use Rattle.embed_session.proofs.changes.accepted_text.Goals as goal

pub returns-in-None : goal.returns-in-None
returns-in-None c =
    let a = c.args.accepted.now in
    not_undone (session_form a.before) a (rw c.in-None.is at c.in_ok-words.ensures)
