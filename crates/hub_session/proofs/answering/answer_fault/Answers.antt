use Rattle.std.proofs.Common.{◌∙◌}
use Rattle.hub_session.proofs.AnswersMade.{fault_refused}
use Rattle.hub_session.proofs.answering.answer_fault.Goals as goal

pub returns-clause-answer : goal.returns-clause-answer
returns-clause-answer c s item refused =
    fault_refused s c.args.number item c.args.fault c.refused.result c.requires.of_the_line refused
    (λ cause is. c.refused.ensures.line ∙ c.in_ok-line.ensures.line cause is) c.refused.ensures.payload
