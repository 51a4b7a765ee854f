-- A hub of lenses, as one of their forms: it is in step, and a line is answered as the forms answer it.
use Rattle.std.proofs.Common.{◌≡◌, ℕ, List, [], ◌∷◌, option_map, refl, sym, ap, ap₂, subst, ◌∙◌}
use Rattle.std.specs.Prelude.{IfSome}
use Rattle.doc_values.specs.Documents.{DocTree}
use Rattle.doc_values.specs.Types.{TyTree}
use Rattle.edit_journal.specs.declared.line.Line.{Line}
use Rattle.lens_flat.specs.declared.flat.ReadyForm.{ReadyForm}
use Rattle.lens_forms.specs.Forms.{FormTree, form_tree, left_type}
use Rattle.view_hub.specs.Hubs.{ViewTree, HubTree}
use Rattle.view_hub.specs.Laws.{AllInStep, IsHub}
use Rattle.view_hub.specs.Views.{HubOf, hub_tree}
use Rattle.view_hub.specs.declared.view.HubParts.{HubParts}
use Rattle.hub_run.specs.AnswerLines.{HasAnswerLine}
use Rattle.hub_run.specs.Answers.{HubAnswerTree, hub_answer_line}
use Rattle.hub_run.specs.EditJson.{edit_of_line}
use Rattle.hub_run.specs.FormLenses.{form_lens}
use Rattle.hub_run.specs.RunStates.{forms_of_lenses, ready_lens, hub_state_of, IsHubOf}
use Rattle.hub_run.specs.Runs.{HubState, take_hub_item}
use Rattle.hub_run.specs.Views.{answer_tree, step_with}
use Rattle.hub_run.specs.declared.answers.HubAnswer.{HubAnswer}
use Rattle.hub_run.proofs.AnswersHaveLines.{has_tree, is_so}
use Rattle.hub_run.proofs.MappedLenses.{items_are}
use Rattle.embed_hub.specs.Steps.{EndsWith, StaysInStep, Answers}
use Rattle.embed_hub.specs.declared.outcome.HubOutcome.{HubOutcome}

-- ---- in step

all_in : (ty : TyTree) (ls : List ReadyForm) (x : DocTree) (vs : List ViewTree) → AllInStep ready_lens ty ls x vs → AllInStep form_lens ty (forms_of_lenses ls) x vs
all_in ty [] x [] h = tt
all_in ty [] x (v ∷ vs) h = absurd h
all_in ty (l ∷ ls) x [] h = absurd h
all_in ty (l ∷ ls) x (v ∷ vs) h = (h.0, h.1, all_in ty ls x vs h.2)

pub stays_in_step : (h : HubOf ReadyForm) → IsHubOf h.lenses (hub_tree h.parts) → StaysInStep h
stays_in_step h all = (refl, by_lenses h.lenses all) where
  by_lenses : (ls : List ReadyForm) → IsHubOf ls (hub_tree h.parts) → IsHub form_lens (forms_of_lenses ls) (hub_tree h.parts)
  by_lenses [] all = absurd all
  by_lenses (l ∷ ls) all = all_in (left_type (form_tree l.typed)) (l ∷ ls) (hub_tree h.parts).hub (hub_tree h.parts).views all

all_back : (ty : TyTree) (ls : List ReadyForm) (x : DocTree) (vs : List ViewTree) → AllInStep form_lens ty (forms_of_lenses ls) x vs → AllInStep ready_lens ty ls x vs
all_back ty [] x [] h = tt
all_back ty [] x (v ∷ vs) h = absurd h
all_back ty (l ∷ ls) x [] h = absurd h
all_back ty (l ∷ ls) x (v ∷ vs) h = (h.0, h.1, all_back ty ls x vs h.2)

-- a hub of forms, as one of the lenses that have these forms
pub hub_of_lenses : (ls : List ReadyForm) (forms : List FormTree) (h : HubTree) → forms ≡ forms_of_lenses ls → IsHub form_lens forms h → IsHubOf ls h
hub_of_lenses ls forms h same all = by_lenses ls (subst (λ (fs : List FormTree). IsHub form_lens fs h) same all) where
  by_lenses : (ls : List ReadyForm) → IsHub form_lens (forms_of_lenses ls) h → IsHubOf ls h
  by_lenses [] all = absurd all
  by_lenses (l ∷ ls) all = all_back (left_type (form_tree l.typed)) (l ∷ ls) h.hub h.views all

-- ---- a step that is taken back

-- a copy of the parts from before, beside the same lenses
pub copy_in_step : (old new : List ReadyForm) (parts given copy : HubParts) → IsHubOf old (hub_tree parts) → given ≡ parts → hub_tree copy ≡ hub_tree given → new ≡ old → IsHubOf new (hub_tree copy)
copy_in_step old new parts given copy all is same lenses =
    let tree : hub_tree copy ≡ hub_tree parts = same ∙ ap hub_tree is in
    subst (λ (ls : List ReadyForm). IsHubOf ls (hub_tree copy)) (sym lenses) (subst (IsHubOf old) (sym tree) all)

abbrev state_with : List ReadyForm → HubTree → HubState
state_with ls h = record { forms = forms_of_lenses ls; hub = h }

pub same_state : (old new : HubOf ReadyForm) → new.lenses ≡ old.lenses → hub_tree new.parts ≡ hub_tree old.parts → hub_state_of new ≡ hub_state_of old
same_state old new lenses parts = ap₂ state_with lenses parts

-- ---- an answer

pub answers_are : (old new : HubOf ReadyForm) (line : Line) (n : ℕ) (ans : HubAnswer) (text : List ℕ) (end : HubOutcome) → HasAnswerLine ans → new.lenses ≡ old.lenses
    → take_hub_item ready_lens old.lenses (hub_tree old.parts) (edit_of_line line) ≡ step_with (hub_tree new.parts) ans
    → IfSome (answer_tree ans) (λ a. text ≡ hub_answer_line n a) → IfSome (answer_tree ans) (λ a. EndsWith a end) → StaysInStep new
    → Answers old n line text end new
answers_are old new line n ans text end has same is line_is ends in_step =
    let t = has_tree ans has in
    let h = hub_tree new.parts in
    record {
      answer = t.0;
      step = sym (items_are (λ (l : ReadyForm). form_tree l.typed) form_lens old.lenses (hub_tree old.parts) (edit_of_line line)) ∙ is ∙ ap (option_map (λ (a : HubAnswerTree). (h, a))) t.1;
      lenses = same;
      is_text = is_so (λ a. text ≡ hub_answer_line n a) (answer_tree ans) t.0 t.1 line_is;
      ended = is_so (λ a. EndsWith a end) (answer_tree ans) t.0 t.1 ends;
      in_step = in_step;
    }
