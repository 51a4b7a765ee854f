-- Every run of the forms of an accepted program part goes on to its end and keeps all views in step.
use Rattle.std.proofs.Common.{◌≡◌, ℕ, List, [], ◌∷◌, map, Some, option_map, IsTrue, false, refl, sym, ap, subst, ◌∙◌}
use Rattle.texts.specs.declared.side.Side.TheVariants.{Left, Right}
use Rattle.doc_values.specs.Documents.{DocTree}
use Rattle.doc_values.specs.Initial.{initial}
use Rattle.doc_values.specs.Types.{TyTree}
use Rattle.edit_journal.specs.Lines.{is_blank}
use Rattle.edit_journal.specs.declared.line.Line.{Line}
use Rattle.lens_forms.specs.Forms.{FormTree, left_type}
use Rattle.lens_forms.specs.Typing.{is_typed}
use Rattle.lens_core.specs.declared.lens.EditLens as OfLens
use Rattle.lens_steps.specs.LawsOfForms.{form_starts, form_edits}
use Rattle.run_scripts.specs.Answers.{Answer}
use Rattle.run_scripts.specs.ScriptEnds.{EveryRunStaysInStep}
use Rattle.run_scripts.proofs.StepsStay.{every_run}
use Rattle.view_hub.specs.Hubs.{ViewTree, HubTree, first_view}
use Rattle.view_hub.specs.Laws.{AllInStep, SameLeft, HaveOneLeftType, IsHub}
use Rattle.view_hub.proofs.HubSteps.{starts}
use Rattle.hub_run.specs.Answers.{HubAnswerTree}
use Rattle.hub_run.specs.EditJson.{edit_of_line}
use Rattle.hub_run.specs.FormLenses.{form_lens, lens_by}
use Rattle.hub_run.specs.FoundLenses.{AllTyped}
use Rattle.hub_run.specs.HubScript.{hub_script}
use Rattle.hub_run.specs.Runs.{HubItem, take_hub_item, HubState, hub_answered, hub_answer, hub_of, first_state, IsHubInStep}
use Rattle.hub_run.proofs.FoundForms.{accepted_forms}
use Rattle.hub_run.proofs.MappedLenses.{items_are, first_views}
use Rattle.hub_run.proofs.RunsInStep.{item_stays}

-- a form with the proof that it is typed
abbrev pub TypedForm : Type 0
TypedForm = (form : FormTree) × IsTrue (is_typed form)

abbrev pub form_of : TypedForm → FormTree
form_of l = l.0

abbrev pub with_types : (forms : List FormTree) → AllTyped forms → List TypedForm
with_types [] all = []
with_types (form ∷ forms) all = (form, all.0) ∷ with_types forms all.1

pub forms_back : (forms : List FormTree) (all : AllTyped forms) → map form_of (with_types forms all) ≡ forms
forms_back [] all = refl
forms_back (form ∷ forms) all = ap (λ fs. form ∷ fs) (forms_back forms all.1)

-- ---- the same of lenses and of their forms

abbrev pub typed_lens : OfLens.Ghosts TypedForm
typed_lens = lens_by form_of form_lens

abbrev pub TypedHub : List TypedForm → HubTree → Type 0
TypedHub = IsHub typed_lens

abbrev pub FormHub : List FormTree → HubTree → Type 0
FormHub = IsHub form_lens

pub same_typed : (ty : TyTree) (ls : List TypedForm) → SameLeft form_lens ty (map form_of ls) → SameLeft typed_lens ty ls
same_typed ty [] h = tt
same_typed ty (l ∷ ls) h = (h.0, same_typed ty ls h.1)

all_in : (ty : TyTree) (ls : List TypedForm) (x : DocTree) (vs : List ViewTree) → AllInStep typed_lens ty ls x vs → AllInStep form_lens ty (map form_of ls) x vs
all_in ty [] x [] h = tt
all_in ty [] x (v ∷ vs) h = absurd h
all_in ty (l ∷ ls) x [] h = absurd h
all_in ty (l ∷ ls) x (v ∷ vs) h = (h.0, h.1, all_in ty ls x vs h.2)

all_back : (ty : TyTree) (ls : List TypedForm) (x : DocTree) (vs : List ViewTree) → AllInStep form_lens ty (map form_of ls) x vs → AllInStep typed_lens ty ls x vs
all_back ty [] x [] h = tt
all_back ty [] x (v ∷ vs) h = absurd h
all_back ty (l ∷ ls) x [] h = absurd h
all_back ty (l ∷ ls) x (v ∷ vs) h = (h.0, h.1, all_back ty ls x vs h.2)

pub is_hub : (ls : List TypedForm) (h : HubTree) → TypedHub ls h → FormHub (map form_of ls) h
is_hub [] h all = absurd all
is_hub (l ∷ ls) h all = all_in (left_type l.0) (l ∷ ls) h.hub h.views all

pub hub_back : (ls : List TypedForm) (h : HubTree) → FormHub (map form_of ls) h → TypedHub ls h
hub_back [] h all = absurd all
hub_back (l ∷ ls) h all = all_back (left_type l.0) (l ∷ ls) h.hub h.views all

-- ---- one item

abbrev pub ItemStays : List FormTree → Type 0
ItemStays forms = (h : HubTree) (item : HubItem) → FormHub forms h → (s : HubTree × HubAnswerTree) × (take_hub_item form_lens forms h item ≡ Some s) × FormHub forms s.0

typed_stays : (ls : List TypedForm) → ItemStays (map form_of ls)
typed_stays ls h item all =
    let s = item_stays typed_lens (λ l. form_edits l.0 l.1 Left) (λ l. form_edits l.0 l.1 Right) ls h item (hub_back ls h all) in
    (s.0, sym (items_are form_of form_lens ls h item) ∙ s.1, is_hub ls s.0.0 s.2)

pub forms_stay : (forms : List FormTree) → AllTyped forms → ItemStays forms
forms_stay forms all = subst ItemStays (forms_back forms all) (typed_stays (with_types forms all))

state_stays : (forms : List FormTree) → AllTyped forms → (t : HubState) (n : ℕ) (line : Line) → is_blank line ≡ false → IsHubInStep forms t
    → (s : HubState × Answer) × (hub_answer t n line ≡ Some s) × IsHubInStep forms s.0
state_stays forms all t n line not_blank kept =
    let s = subst (λ fs. (s : HubTree × HubAnswerTree) × (take_hub_item form_lens fs t.hub (edit_of_line line) ≡ Some s) × FormHub forms s.0) (sym kept.0)
    (forms_stay forms all t.hub (edit_of_line line) kept.1) in
    (hub_answered t.forms n s.0, ap (option_map (hub_answered t.forms n)) s.1, (kept.0, s.2))

-- ---- the start

typed_starts : (ls : List TypedForm) → HaveOneLeftType form_lens (map form_of ls) → FormHub (map form_of ls) (hub_of (map form_of ls))
typed_starts [] one = absurd one
typed_starts (l ∷ ls) one =
    let x = initial (left_type l.0) in
    let views = starts typed_lens (λ l. form_edits l.0 l.1 Left) (λ l. form_edits l.0 l.1 Right) (λ l. form_starts l.0 l.1)
    (left_type l.0) x (λ m is. ap initial (sym is)) (l ∷ ls) (refl, same_typed (left_type l.0) ls one) in
    all_in (left_type l.0) (l ∷ ls) x (map (first_view form_lens) (l.0 ∷ map form_of ls))
    (subst (AllInStep typed_lens (left_type l.0) (l ∷ ls) x) (first_views form_of form_lens (l ∷ ls)) views)

pub forms_start : (forms : List FormTree) → AllTyped forms → HaveOneLeftType form_lens forms → FormHub forms (hub_of forms)
forms_start forms all one =
    subst (λ fs. FormHub fs (hub_of fs)) (forms_back forms all)
    (typed_starts (with_types forms all) (subst (HaveOneLeftType form_lens) (sym (forms_back forms all)) one))

-- ---- all items

pub accepted_in_step : EveryRunStaysInStep hub_script
accepted_in_step part forms is lines =
    let a = accepted_forms part forms is in
    every_run hub_answer (IsHubInStep forms) (state_stays forms a.0) (first_state forms) (refl, forms_start forms a.0 a.1) lines
