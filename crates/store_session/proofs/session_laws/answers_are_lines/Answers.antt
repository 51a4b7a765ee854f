use Rattle.store_session.proofs.AnswerLines.{is_answer}
use Rattle.store_session.proofs.session_laws.answers_are_lines.Goals as goal

pub returns : goal.returns
returns c = is_answer
