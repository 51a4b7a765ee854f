-- A hub of compiled lenses makes the steps of their forms.
use Rattle.std.proofs.Common.{◌≡◌, List, [], ◌∷◌, Option, Some, None, Result, Ok, Err, refl, ap, ◌∙◌}
use Rattle.std.specs.Prelude.{option_map, option_and_then}
use Rattle.edit_module.specs.Words.{WordTree}
use Rattle.lens_flat.specs.declared.flat.ReadyForm.{ReadyForm}
use Rattle.doc_values.specs.Documents.{DocTree}
use Rattle.doc_values.specs.Types.{TyTree}
use Rattle.lens_forms.specs.Forms.{FormTree, form_tree, left_type}
use Rattle.view_hub.specs.Groups.{then_others, with_words, step_group, add_view}
use Rattle.view_hub.specs.Hubs.{ViewTree, HubTree, Place, CarriedTree, ViewRefusal, hub_step}
use Rattle.view_hub.specs.Laws.{AllInStep, IsHub}
use Rattle.hub_run.specs.FormLenses.{form_lens}
use Rattle.hub_run.specs.FoundLenses.{AllTyped}
use Rattle.hub_run.specs.RunStates.{forms_of_lenses, ready_lens, IsHubOf}
use Rattle.hub_run.proofs.MappedLenses.{steps_are}

abbrev form_of : ReadyForm → FormTree
form_of l = form_tree l.typed

others_are : (ls : List ReadyForm) (es : List (Place × WordTree)) (o : Option (Result (HubTree × CarriedTree) ViewRefusal))
    → ((h : HubTree) → step_group ready_lens ls h es ≡ step_group form_lens (forms_of_lenses ls) h es)
    → option_and_then (then_others (λ h. step_group ready_lens ls h es)) o ≡ option_and_then (then_others (λ h. step_group form_lens (forms_of_lenses ls) h es)) o
others_are ls es (Some (Ok s)) same = ap (option_map (with_words s.1)) (same s.0)
others_are ls es (Some (Err why)) same = refl
others_are ls es None same = refl

-- a group is stepped by the forms
pub groups_are : (ls : List ReadyForm) (h : HubTree) (es : List (Place × WordTree)) → step_group ready_lens ls h es ≡ step_group form_lens (forms_of_lenses ls) h es
groups_are ls h [] = refl
groups_are ls h (e ∷ es) =
    others_are ls es (hub_step ready_lens ls h e) (λ k. groups_are ls k es)
    ∙ ap (option_and_then (then_others (λ k. step_group form_lens (forms_of_lenses ls) k es))) (steps_are form_of form_lens ls h e)

-- ---- the lenses of a hub, and their forms

pub all_typed : (ls : List ReadyForm) → AllTyped (forms_of_lenses ls)
all_typed [] = tt
all_typed (l ∷ ls) = (l.ready.0, all_typed ls)

forms_in : (ty : TyTree) (ls : List ReadyForm) (x : DocTree) (vs : List ViewTree) → AllInStep ready_lens ty ls x vs → AllInStep form_lens ty (forms_of_lenses ls) x vs
forms_in ty [] x [] h = tt
forms_in ty [] x (v ∷ vs) h = absurd h
forms_in ty (l ∷ ls) x [] h = absurd h
forms_in ty (l ∷ ls) x (v ∷ vs) h = (h.0, h.1, forms_in ty ls x vs h.2)

-- a hub that is in step with its lenses is in step with their forms
pub hub_of_forms : (ls : List ReadyForm) (h : HubTree) → IsHubOf ls h → IsHub form_lens (forms_of_lenses ls) h
hub_of_forms [] h all = absurd all
hub_of_forms (l ∷ ls) h all = forms_in (left_type (form_of l)) (l ∷ ls) h.hub h.views all
