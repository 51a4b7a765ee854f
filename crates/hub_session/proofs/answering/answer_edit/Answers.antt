use Rattle.std.proofs.Common.{◌≡◌, ◌≤◌, List, Some, Ok, sym, ap, subst, ◌∙◌}
use Rattle.std.proofs.lemmas.Result.{IfOk-weaker}
use Rattle.serde_json.specs.Data.{depth}
use Rattle.serde_json.specs.Read.{max_depth}
use Rattle.edit_module.specs.Views.{word_tree}
use Rattle.edit_module.specs.Words.{WordTree}
use Rattle.lens_flat.specs.declared.flat.ReadyForm.{ReadyForm}
use Rattle.view_hub.specs.Hubs.{Place, no_view, no_apply, hub_step}
use Rattle.view_hub.specs.Views.{IsHubRefusal, hub_carried_tree, hub_tree, place_of_side}
use Rattle.hub_run.specs.RunStates.{forms_of_lenses, ready_lens, hub_state_of}
use Rattle.hub_records.specs.HubChanges.{HubChangeTree, tree_of_hub_change}
use Rattle.hub_records.specs.LowForms.{AllLow}
use Rattle.hub_records.specs.Views.{hub_change_tree}
use Rattle.hub_session.specs.HubAnswers.{hub_answer_item, hub_change_text}
use Rattle.hub_session.proofs.AnswersMade.{both_ok, edit_answer, edit_refusal, edit_low}
use Rattle.hub_session.proofs.answering.answer_edit.Goals as goal

pub returns-in_ok-line-in-Ok-clause-reads : goal.returns-in_ok-line-in-Ok-clause-reads
returns-in_ok-line-in-Ok-clause-reads c =
    let hub = c.args.hub.now in
    let low_forms = subst (λ (ls : List ReadyForm). AllLow (forms_of_lenses ls)) c.lenses.ensures.lenses c.lenses_are_low.ensures in
    let low = edit_low hub.lenses (hub_tree hub.parts) c.args.number (place_of_side c.args.side, word_tree c.args.word.now) (hub_tree c.step.new.self.parts) (hub_carried_tree c.in-Ok.carried) low_forms c.in-Ok.ensures.steps in
    IfOk-weaker c.accepted.result _ _ (λ a h. h (subst (λ (change : HubChangeTree). depth (tree_of_hub_change change) ≤ max_depth) (sym c.requires.is_edit) low)) c.accepted.ensures.reads

pub returns-in_ok-line-in-Ok-clause-answer : goal.returns-in_ok-line-in-Ok-clause-answer
returns-in_ok-line-in-Ok-clause-answer c =
    let hub = c.args.hub.now in
    let new = c.step.new.self in
    let change = hub_change_tree c.args.change.now in
    let line_is = c.in_ok-line-in-Ok.ensures.line in
    both_ok c.accepted.result (λ a. a.line ≡ c.in_ok-line-in-Ok.line) (λ a. a.payload ≡ Some (hub_change_text change)) (λ a. hub_answer_item (hub_state_of hub) c.args.number (Ok change) ≡ Some (hub_state_of new, a))
    (λ a line payload.
    edit_answer hub.lenses (hub_tree hub.parts) c.args.number change (place_of_side c.args.side, word_tree c.args.word.now) new.lenses (hub_tree new.parts) (hub_carried_tree c.in-Ok.carried) a
    c.requires.is_edit c.step.ensures.lenses c.in-Ok.ensures.steps (line ∙ line_is) payload)
    c.accepted.ensures.line c.accepted.ensures.payload

pub returns-in_ok-no_view_line-in-Err-NoView-clause-answer : goal.returns-in_ok-no_view_line-in-Err-NoView-clause-answer
returns-in_ok-no_view_line-in-Err-NoView-clause-answer c =
    let hub = c.args.hub.now in
    let e = c.in-Err-NoView in
    let edit : Place × WordTree = (place_of_side c.args.side, word_tree c.args.word.now) in
    let is = subst (IsHubRefusal (hub_step ready_lens hub.lenses (hub_tree hub.parts) edit)) e.field-0-is e.ensures.steps in
    edit_refusal hub.lenses (hub_tree hub.parts) c.args.number (hub_change_tree c.args.change.now) edit (no_view e.field-0-0) c.refused.result c.requires.is_edit is
    (c.refused.ensures.line ∙ c.in_ok-no_view_line-in-Err-NoView.ensures.line) c.refused.ensures.payload
    ∙ ap (λ x. Some (hub_state_of x, c.refused.result)) (sym e.ensures.unchanged)

pub returns-in_ok-no_apply_line-in-Err-NoApply-clause-answer : goal.returns-in_ok-no_apply_line-in-Err-NoApply-clause-answer
returns-in_ok-no_apply_line-in-Err-NoApply-clause-answer c =
    let hub = c.args.hub.now in
    let e = c.in-Err-NoApply in
    let edit : Place × WordTree = (place_of_side c.args.side, word_tree c.args.word.now) in
    let is = subst (IsHubRefusal (hub_step ready_lens hub.lenses (hub_tree hub.parts) edit)) e.field-0-is e.ensures.steps in
    edit_refusal hub.lenses (hub_tree hub.parts) c.args.number (hub_change_tree c.args.change.now) edit (no_apply e.at e.cause) c.refused-in-Err-NoApply.result c.requires.is_edit is
    (c.refused-in-Err-NoApply.ensures.line ∙ c.in_ok-no_apply_line-in-Err-NoApply.ensures.line) c.refused-in-Err-NoApply.ensures.payload
    ∙ ap (λ x. Some (hub_state_of x, c.refused-in-Err-NoApply.result)) (sym e.ensures.unchanged)
