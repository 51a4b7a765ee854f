use Rattle.run_answers.proofs.AnswersHaveLines.{fault_line_added}
use Rattle.run_answers.proofs.answers.add_answer_line.Goals as goal

pub returns-in-NoEntry-clause-line : goal.returns-in-NoEntry-clause-line
returns-in-NoEntry-clause-line c =
    fault_line_added c.add_fault_line.result c.args.answer.now _ c.args.number c.args.text.now.items c.add_fault_line.new.text.items c.in-NoEntry.is c.add_fault_line.ensures.line
