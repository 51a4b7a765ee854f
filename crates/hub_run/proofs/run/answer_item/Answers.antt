use Rattle.std.proofs.Common.{◌++◌, ap, ◌∙◌}
use Rattle.hub_run.proofs.HubAnswers.{answer_is}
use Rattle.hub_run.proofs.run.answer_item.Goals as goal

pub returns-clause-answer : goal.returns-clause-answer
returns-clause-answer c = record {
  line = c.in_ok-line.line;
  answers = answer_is c.args.hub.now c.take_hub_item.new.hub c.args.line.now c.args.number c.in_ok-answer.answer c.in_ok-line.line c.is_refused.result c.in_ok-answer.ensures.has_line c.take_hub_item.ensures.lens
      c.in_ok-answer.ensures.answer c.in_ok-line.ensures.line c.is_refused.ensures.refused;
  adds = c.in_ok-extend_from_slice.ensures.items ∙ ap (λ l. c.args.text.now.items ++ l) c.as_slice.ensures;
}
