-- The answer to a line of a hub whose lenses are those of forms.
use Rattle.std.proofs.Common.{◌≡◌, ℕ, List, Bool, Some, option_map, refl, sym, ap, ◌∙◌}
use Rattle.std.specs.Prelude.{IfSome}
use Rattle.edit_journal.specs.declared.line.Line.{Line}
use Rattle.lens_flat.specs.declared.flat.ReadyForm.{ReadyForm}
use Rattle.lens_forms.specs.Forms.{FormTree, form_tree}
use Rattle.view_hub.specs.Hubs.{HubTree}
use Rattle.view_hub.specs.Views.{HubOf, hub_tree}
use Rattle.hub_run.specs.AnswerLines.{HasAnswerLine}
use Rattle.hub_run.specs.Answers.{HubAnswerTree, hub_answer_line, is_refused_by_hub}
use Rattle.hub_run.specs.EditJson.{edit_of_line}
use Rattle.hub_run.specs.FormLenses.{form_lens}
use Rattle.hub_run.specs.RunStates.{forms_of_lenses, ready_lens, hub_state_of}
use Rattle.hub_run.specs.Runs.{take_hub_item, hub_answered, hub_answer}
use Rattle.hub_run.specs.Views.{answer_tree, step_with}
use Rattle.hub_run.specs.declared.answers.HubAnswer.{HubAnswer}
use Rattle.hub_run.proofs.AnswersHaveLines.{has_tree, is_so}
use Rattle.hub_run.proofs.MappedLenses.{items_are}

same_answer : (forms forms' : List FormTree) (h : HubTree) (n : ℕ) (a : HubAnswerTree) (text : List ℕ) (refused : Bool) → forms' ≡ forms → text ≡ hub_answer_line n a → refused ≡ is_refused_by_hub a
    → Some (hub_answered forms n (h, a)) ≡ Some (record { forms = forms'; hub = h }, record { line = text; refused = refused })
same_answer forms forms' h n a text refused same line is = rw (same, line, is) refl

pub answer_is : (old new : HubOf ReadyForm) (line : Line) (n : ℕ) (ans : HubAnswer) (text : List ℕ) (refused : Bool) → HasAnswerLine ans → new.lenses ≡ old.lenses
    → take_hub_item ready_lens old.lenses (hub_tree old.parts) (edit_of_line line)
    ≡ step_with (hub_tree new.parts) ans
    → IfSome (answer_tree ans) (λ a. text ≡ hub_answer_line n a) → IfSome (answer_tree ans) (λ a. refused ≡ is_refused_by_hub a)
    → hub_answer (hub_state_of old) n line ≡ Some (hub_state_of new, record { line = text; refused = refused })
answer_is old new line n ans text refused has same is line_is refused_is =
    let t = has_tree ans has in
    let h = hub_tree new.parts in
    let item : take_hub_item form_lens (forms_of_lenses old.lenses) (hub_tree old.parts) (edit_of_line line) ≡ Some (h, t.0) =
    sym (items_are (λ (l : ReadyForm). form_tree l.typed) form_lens old.lenses (hub_tree old.parts) (edit_of_line line)) ∙ is ∙ ap (option_map (λ (a : HubAnswerTree). (h, a))) t.1 in
    ap (option_map (hub_answered (forms_of_lenses old.lenses) n)) item
    ∙ same_answer (forms_of_lenses old.lenses) (forms_of_lenses new.lenses) h n t.0 text refused (ap forms_of_lenses same)
    (is_so (λ a. text ≡ hub_answer_line n a) (answer_tree ans) t.0 t.1 line_is) (is_so (λ a. refused ≡ is_refused_by_hub a) (answer_tree ans) t.0 t.1 refused_is)
