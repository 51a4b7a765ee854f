use Rattle.answer_text.proofs.RefusalLines.{typing_refused}
use Rattle.answer_text.proofs.refusals.refused_part_line.Goals as goal

pub returns-in-Typing : goal.returns-in-Typing
returns-in-Typing c = record { line = typing_refused c.typing_line.result c.args.refused.now c.in-Typing.fault c.in-Typing.is c.typing_line.ensures.line }
