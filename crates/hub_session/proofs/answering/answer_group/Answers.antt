use Rattle.std.proofs.Common.{◌≡◌, ◌≤◌, List, Some, Ok, map, sym, ap, subst, ◌∙◌}
use Rattle.std.proofs.lemmas.Result.{IfOk-weaker}
use Rattle.serde_json.specs.Data.{depth}
use Rattle.serde_json.specs.Read.{max_depth}
use Rattle.lens_flat.specs.declared.flat.ReadyForm.{ReadyForm}
use Rattle.view_hub.specs.declared.side.HubCarried.{HubCarried}
use Rattle.view_hub.specs.Groups.{step_group}
use Rattle.view_hub.specs.Hubs.{no_view, no_apply}
use Rattle.view_hub.specs.Views.{IsGroupRefusal, hub_carried_tree, edit_trees, hub_tree}
use Rattle.hub_run.specs.RunStates.{forms_of_lenses, ready_lens, hub_state_of}
use Rattle.hub_records.specs.HubChanges.{HubChangeTree, tree_of_hub_change}
use Rattle.hub_records.specs.LowForms.{AllLow}
use Rattle.hub_records.specs.Views.{hub_change_tree}
use Rattle.hub_session.specs.HubAnswers.{hub_answer_item, hub_change_text, group_ok_line}
use Rattle.hub_session.proofs.AnswersMade.{both_ok, group_answer, group_refusal, group_low}
use Rattle.hub_session.proofs.answering.answer_group.Goals as goal

pub returns-in_ok-line-in-Ok-clause-reads : goal.returns-in_ok-line-in-Ok-clause-reads
returns-in_ok-line-in-Ok-clause-reads c =
    let hub = c.args.hub.now in
    let low_forms = subst (λ (ls : List ReadyForm). AllLow (forms_of_lenses ls)) c.lenses.ensures.lenses c.lenses_are_low.ensures in
    let low = group_low hub.lenses (hub_tree hub.parts) c.args.number (edit_trees c.args.edits.now) (hub_tree c.step_all.new.self.parts) (map hub_carried_tree c.in-Ok.words.items) low_forms c.in-Ok.ensures.steps in
    IfOk-weaker c.accepted.result _ _ (λ a h. h (subst (λ (change : HubChangeTree). depth (tree_of_hub_change change) ≤ max_depth) (sym c.requires.is_group) low)) c.accepted.ensures.reads

pub returns-in_ok-line-in-Ok-clause-answer : goal.returns-in_ok-line-in-Ok-clause-answer
returns-in_ok-line-in-Ok-clause-answer c =
    let hub = c.args.hub.now in
    let new = c.step_all.new.self in
    let change = hub_change_tree c.args.change.now in
    let line_is = c.in_ok-line-in-Ok.ensures ∙ ap (λ (ws : List HubCarried). group_ok_line c.args.number (map hub_carried_tree ws)) c.deref.ensures.value in
    both_ok c.accepted.result (λ a. a.line ≡ c.in_ok-line-in-Ok.line) (λ a. a.payload ≡ Some (hub_change_text change)) (λ a. hub_answer_item (hub_state_of hub) c.args.number (Ok change) ≡ Some (hub_state_of new, a))
    (λ a line payload.
    group_answer hub.lenses (hub_tree hub.parts) c.args.number change (edit_trees c.args.edits.now) new.lenses (hub_tree new.parts) (map hub_carried_tree c.in-Ok.words.items) a
    c.requires.is_group c.step_all.ensures.lenses c.in-Ok.ensures.steps (line ∙ line_is) payload)
    c.accepted.ensures.line c.accepted.ensures.payload

pub returns-in_ok-group_no_view_line-in-Err-NoView-clause-answer : goal.returns-in_ok-group_no_view_line-in-Err-NoView-clause-answer
returns-in_ok-group_no_view_line-in-Err-NoView-clause-answer c =
    let hub = c.args.hub.now in
    let e = c.in-Err-NoView in
    let edits = edit_trees c.args.edits.now in
    let is = subst (IsGroupRefusal (step_group ready_lens hub.lenses (hub_tree hub.parts) edits)) e.field-0-is e.ensures.steps in
    group_refusal hub.lenses (hub_tree hub.parts) c.args.number (hub_change_tree c.args.change.now) edits e.part (no_view e.field-0-1) c.refused.result c.requires.is_group is
    (c.refused.ensures.line ∙ c.in_ok-group_no_view_line-in-Err-NoView.ensures) c.refused.ensures.payload
    ∙ ap (λ x. Some (hub_state_of x, c.refused.result)) (sym e.ensures.unchanged)

pub returns-in_ok-group_refused_line-in-Err-NoApply-clause-answer : goal.returns-in_ok-group_refused_line-in-Err-NoApply-clause-answer
returns-in_ok-group_refused_line-in-Err-NoApply-clause-answer c =
    let hub = c.args.hub.now in
    let e = c.in-Err-NoApply in
    let edits = edit_trees c.args.edits.now in
    let is = subst (IsGroupRefusal (step_group ready_lens hub.lenses (hub_tree hub.parts) edits)) e.field-0-is e.ensures.steps in
    group_refusal hub.lenses (hub_tree hub.parts) c.args.number (hub_change_tree c.args.change.now) edits e.part (no_apply e.at e.cause) c.refused-in-Err-NoApply.result c.requires.is_group is
    (c.refused-in-Err-NoApply.ensures.line ∙ c.in_ok-group_refused_line-in-Err-NoApply.ensures.line) c.refused-in-Err-NoApply.ensures.payload
    ∙ ap (λ x. Some (hub_state_of x, c.refused-in-Err-NoApply.result)) (sym e.ensures.unchanged)
