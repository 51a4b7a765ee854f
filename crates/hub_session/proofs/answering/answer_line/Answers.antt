use Rattle.std.proofs.Common.{List, ℕ, Option, Ok, sym, subst}
use Rattle.std.specs.Prelude.{IfSome}
use Rattle.std.proofs.lemmas.Result.{IfOk-weaker}
use Rattle.hub_run.specs.RunStates.{hub_state_of}
use Rattle.hub_records.specs.HubChanges.{hub_change_of_line}
use Rattle.hub_records.specs.Views.{hub_change_tree}
use Rattle.hub_session.specs.HubStates.{ReadsAsHubChange}
use Rattle.hub_session.proofs.AnswerLines.{item_is_answer}
use Rattle.hub_session.proofs.answering.answer_line.Goals as goal

pub returns-in-Ok-clause-is_answer : goal.returns-in-Ok-clause-is_answer
returns-in-Ok-clause-is_answer c =
    IfOk-weaker c.answer_change.result _ _
    (λ a h. item_is_answer (hub_state_of c.args.hub.now) c.args.number (Ok (hub_change_tree c.in-Ok.change)) (hub_state_of c.answer_change.new.hub) a h)
    c.answer_change.ensures.answer

pub returns-in-Err-clause-answer : goal.returns-in-Err-clause-answer
returns-in-Err-clause-answer c =
    IfOk-weaker c.answer_fault.result _ _ (λ a h. h (hub_state_of c.args.hub.now) (hub_change_of_line c.args.line.now) c.in-Err.ensures.change) c.answer_fault.ensures.answer

pub returns-in-Err-clause-step : goal.returns-in-Err-clause-step
returns-in-Err-clause-step c =
    IfOk-weaker c.answer_fault.result _ _
    (λ a h. subst (λ (o : Option (List ℕ)). IfSome o (ReadsAsHubChange (hub_change_of_line c.args.line.now))) (sym h) tt)
    c.answer_fault.ensures.none

pub returns-in-Err-clause-is_answer : goal.returns-in-Err-clause-is_answer
returns-in-Err-clause-is_answer c =
    let s = hub_state_of c.args.hub.now in
    let item = hub_change_of_line c.args.line.now in
    IfOk-weaker c.answer_fault.result _ _ (λ a h. item_is_answer s c.args.number item s a (h s item c.in-Err.ensures.change)) c.answer_fault.ensures.answer
