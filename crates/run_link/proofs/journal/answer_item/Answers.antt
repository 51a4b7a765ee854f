use Rattle.std.proofs.Common.{◌++◌, ap, ◌∙◌}
use Rattle.lens_forms.specs.Forms.{form_tree}
use Rattle.turn_link.specs.LinkViews.{link_tree}
use Rattle.run_link.proofs.AnswerSteps.{answered_line}
use Rattle.run_link.proofs.journal.answer_item.Goals as goal

pub returns-clause-answer : goal.returns-clause-answer
returns-clause-answer c = record {
  line = c.in_ok-line.line;
  answers = answered_line (form_tree c.args.link.now.left.lens.typed) (form_tree c.take_link_item.new.link.left.lens.typed) (link_tree c.take_link_item.new.link) c.args.number c.in_ok-line.line c.is_refused.result _
      (ap (λ l. form_tree l.typed) c.in_ok-answer.ensures.lens) c.in_ok-answer.answer c.in_ok-answer.ensures.has_line c.in_ok-answer.ensures.answer c.in_ok-line.ensures.line c.is_refused.ensures.refused;
  adds = c.in_ok-extend_from_slice.ensures.items ∙ ap (λ l. c.args.text.now.items ++ l) c.as_slice.ensures;
}
