use Rattle.std.proofs.Common.{◌≡◌, sym, subst}
use Rattle.std.specs.Prelude.{IfSome}
use Rattle.hub_run.specs.Answers.{hub_answer_line}
use Rattle.hub_run.specs.Views.{answer_tree}
use Rattle.embed_hub.proofs.FormHubs.{answers_are}
use Rattle.embed_hub.proofs.form_hub.answer.Goals as goal

pub returns-clause-answers : goal.returns-clause-answers
returns-clause-answers c =
    let ans = c.in_ok-answer.answer in
    let n = c.args.number in
    answers_are c.args.hub.now c.take_hub_item.new.hub c.args.line.now n ans c.into_vec.result.items c.outcome_of-outcome.result c.in_ok-answer.ensures.has_line c.take_hub_item.ensures.lens
    c.in_ok-answer.ensures.answer (subst (λ text. IfSome (answer_tree ans) (λ a. text ≡ hub_answer_line n a)) (sym c.into_vec.ensures) c.in_ok-text.ensures.line) c.outcome_of-outcome.ensures
    c.is_in_step.ensures.of_forms
