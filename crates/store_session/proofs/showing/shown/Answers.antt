use Rattle.store_session.specs.SessionStates.{session_state}
use Rattle.store_session.proofs.AnswerLines.{states_are_other}
use Rattle.store_session.proofs.showing.shown.Goals as goal

pub returns-clause-lines : goal.returns-clause-lines
returns-clause-lines c =
    rw (c.from_vec.ensures, c.in_ok-text.ensures.lines, c.typed-typed.ensures, c.lens.ensures) (states_are_other (session_state c.args.session.now))
