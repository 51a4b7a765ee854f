-- The first state of a hub of lenses, and a program part that is opened or refused.
use Rattle.std.proofs.Common.{◌≡◌, ℕ, List, [], ◌∷◌, ◌++◌, Some, Result, Ok, Err, refl, sym, ap, subst, ◌∙◌}
use Rattle.std.specs.Prelude.{◌≢◌, IfOk, MatchResult}
use Rattle.doc_values.specs.Types.{TyTree}
use Rattle.lens_flat.specs.declared.flat.ReadyForm.{ReadyForm}
use Rattle.lens_forms.specs.Forms.{FormTree, form_tree, left_type}
use Rattle.run_scripts.specs.ScriptSteps.{IsRefusedWith, Opens}
use Rattle.run_scripts.specs.declared.script_state.NotOpened.{NotOpened}
use Rattle.run_scripts.specs.declared.script_state.NotOpened.TheVariants as opening
use Rattle.view_hub.specs.Hubs.{HubTree, start_hub, first_hub}
use Rattle.view_hub.specs.Laws.{SameLeft, HaveOneLeftType}
use Rattle.view_hub.specs.Views.{HubOf, hub_tree}
use Rattle.hub_run.specs.FormLenses.{form_lens}
use Rattle.hub_run.specs.FoundLenses.{IsRefusalOf, IsRefusedHub}
use Rattle.hub_run.specs.HubHeads.{HasPieces}
use Rattle.hub_run.specs.HubScript.{hub_script}
use Rattle.hub_run.specs.Lenses.{HubRefusal, forms_of, lenses_of, hub_refusal_line}
use Rattle.hub_run.specs.RunStates.{forms_of_lenses, ready_lens, hub_state_of}
use Rattle.hub_run.specs.Runs.{hub_of, first_state}
use Rattle.hub_run.specs.declared.pieces.Pieces.{Pieces}
use Rattle.hub_run.specs.declared.views.HubRefused.{HubRefused}
use Rattle.hub_run.specs.declared.views.HubRefused.TheVariants.{TooManyViews, InView, ViewsDiffer, NoMemory}
use Rattle.hub_run.proofs.MappedLenses.{starts_are}

abbrev form_of : ReadyForm → FormTree
form_of l = form_tree l.typed

abbrev OneLeft : List ReadyForm → Type 0
OneLeft = HaveOneLeftType ready_lens

same_back : (ty : TyTree) (ls : List ReadyForm) → SameLeft form_lens ty (forms_of_lenses ls) → SameLeft ready_lens ty ls
same_back ty [] h = tt
same_back ty (l ∷ ls) h = (h.0, same_back ty ls h.1)

one_back : (ls : List ReadyForm) → HaveOneLeftType form_lens (forms_of_lenses ls) → OneLeft ls
one_back [] h = h
one_back (l ∷ ls) h = same_back (left_type (form_of l)) ls h

-- lenses of forms with one left type have one left type
pub one_left_of_lenses : (ls : List ReadyForm) (forms : List FormTree) → forms_of_lenses ls ≡ forms → HaveOneLeftType form_lens forms → OneLeft ls
one_left_of_lenses ls forms same h = one_back ls (subst (HaveOneLeftType form_lens) (sym same) h)

first_is : (forms : List FormTree) (h : HubTree) → start_hub form_lens forms ≡ Some h → h ≡ hub_of forms
first_is [] h e = cc
first_is (form ∷ forms) h e = let same : first_hub form_lens form (form ∷ forms) ≡ h = cc in sym same

-- the hub of some lenses at its start is that of their forms
pub start_is : (ls : List ReadyForm) (forms : List FormTree) (h : HubTree) → forms_of_lenses ls ≡ forms
    → start_hub ready_lens ls ≡ Some h → h ≡ hub_of forms
start_is ls forms h same is =
    first_is forms h (ap (start_hub form_lens) (sym same) ∙ sym (starts_are form_of form_lens ls) ∙ is)

pub started_hub : {E : Type 0} (r : Result (HubOf ReadyForm) E) (ls : List ReadyForm) (forms : List FormTree) → forms_of_lenses ls ≡ forms
    → IfOk r (λ h. start_hub ready_lens ls ≡ Some (hub_tree h.parts))
    → IfOk r (λ h. hub_tree h.parts ≡ hub_of forms)
started_hub (Ok h) ls forms same is = start_is ls forms (hub_tree h.parts) same is
started_hub (Err e) ls forms same is = tt

-- ---- a program part that is opened

pub opens : (part : List ℕ) (forms : List FormTree) (r : Result (HubOf ReadyForm) NotOpened) → lenses_of part ≡ Ok forms
    → MatchResult r (λ h. hub_state_of h ≡ first_state forms) (λ refused. refused ≡ opening.NoMemory) → Opens hub_script (lenses_of part) r
opens part forms (Ok h) is first = record { program = forms; is = is; first = first }
opens part forms (Err (opening.Refused line)) is none = absurd cc
opens part forms (Err opening.NoMemory) is none = tt

pub refused_with : (outcome : Result (List FormTree) HubRefusal) (refused : HubRefused) (line : List ℕ) → refused ≢ NoMemory
    → ((refusal : HubRefusal) → IsRefusalOf refused refusal → line ≡ hub_refusal_line refusal) → IsRefusedHub outcome refused → IsRefusedWith hub_script outcome line
refused_with outcome TooManyViews line not is h = record { refusal = h.0; is = h.1; is_line = is h.0 h.2 }
refused_with outcome (InView v refused) line not is h = record { refusal = h.0; is = h.1; is_line = is h.0 h.2 }
refused_with outcome (ViewsDiffer v) line not is h = record { refusal = h.0; is = h.1; is_line = is h.0 h.2 }
refused_with outcome NoMemory line not is h = absurd (not refl)

-- the refusal of the pieces is that of the program part
pub part_refused : (part : List ℕ) (kept : Pieces) (refused : HubRefused) (h : HasPieces kept part) → IsRefusedHub (forms_of (h.ended ++ h.begun ∷ [])) refused → IsRefusedHub (lenses_of part) refused
part_refused part kept refused h none = subst (λ (ps : List (List ℕ)). IsRefusedHub (forms_of ps) refused) (sym h.are) none
