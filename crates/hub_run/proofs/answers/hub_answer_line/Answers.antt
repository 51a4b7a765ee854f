use Rattle.hub_run.proofs.AnswersHaveLines.{fault_line_is}
use Rattle.hub_run.proofs.answers.hub_answer_line.Goals as goal

pub returns-in-NoEdit : goal.returns-in-NoEdit
returns-in-NoEdit c = record { line = fault_line_is c.fault_line.result c.args.answer.now _ c.args.number c.in-NoEdit.is c.fault_line.ensures.line }
