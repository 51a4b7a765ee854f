use Rattle.std.proofs.Common.{ap}
use Rattle.lens_forms.specs.Forms.{form_tree}
use Rattle.edit_session.specs.Views.{triple_tree}
use Rattle.run_pair.proofs.AnswerSteps.{answered_line}
use Rattle.run_pair.proofs.pair.answer_item.Goals as goal

pub returns-clause-answer : goal.returns-clause-answer
returns-clause-answer c =
    answered_line (form_tree c.args.session.now.lens.typed) (form_tree c.take_item.new.session.lens.typed) (triple_tree c.take_item.new.session.triple) c.args.number c.args.text.now.items c.add_answer_line.new.text.items
    c.is_refused.result _ (ap (λ l. form_tree l.typed) c.in_ok-answer.ensures.lens) c.in_ok-answer.answer c.in_ok-answer.ensures.has_line c.in_ok-answer.ensures.answer c.in_ok-add_answer_line.ensures.line c.is_refused.ensures.refused
