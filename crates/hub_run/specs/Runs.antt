-- The run of a hub over the lines of a journal, and the lines of its last state. The run over lines is `run_lines` of
-- run_scripts, from the state and the answer that are defined here.
-- Read it from the end: `IsHubInStep`, `first_state`, `hub_answer`, then `hub_state_text`.
use Rattle.std.specs.Prelude.{◌≡◌, ℕ, ◌+◌, List, [], ◌∷◌, ◌++◌, slice_get, Option, Some, option_map, Result, Ok, Err}
use Rattle.std.specs.Prelude.{codes, decimal}
use Rattle.doc_values.specs.Documents.{DocTree, unit}
use Rattle.edit_module.specs.Words.{WordTree}
use Rattle.edit_journal.specs.EntryJson.{LineFault}
use Rattle.edit_journal.specs.declared.line.Line.{Line}
use Rattle.value_json.specs.DocumentJson.{tree_of_document}
use Rattle.complement_file.specs.ComplementJson.{tree_of_complement}
use Rattle.lens_forms.specs.Forms.{FormTree, left_type, right_type}
use Rattle.lens_core.specs.Complements.{CompTree}
use Rattle.lens_core.specs.declared.lens.EditLens as OfLens
use Rattle.answer_text.specs.Lines.{tree_line}
use Rattle.run_scripts.specs.Answers.{Answer}
use Rattle.view_hub.specs.Hubs as hubs
use Rattle.view_hub.specs.Hubs.{ViewTree, HubTree, Place, CarriedTree, hub_step, first_hub}
use Rattle.view_hub.specs.Laws.{IsHub}
use Rattle.hub_run.specs.Answers.{HubAnswerTree, carried, no_view, no_apply, no_edit, is_refused_by_hub}
use Rattle.hub_run.specs.Answers.{hub_answer_line}
use Rattle.hub_run.specs.EditJson.{edit_of_line}
use Rattle.hub_run.specs.FormLenses.{form_lens}

-- ---- the state lines

-- `view V JSON` and `complement V JSON`
abbrev pub lines_of_view : ℕ → FormTree → CompTree → DocTree → List ℕ
lines_of_view v form comp doc =
    tree_line (codes "view " ++ decimal v) (tree_of_document (right_type form) doc)
    ++ tree_line (codes "complement " ++ decimal v) (tree_of_complement form comp)

-- these are the lines of the view with this number
pub record HasLinesOfView (views : List ViewTree) (v : ℕ) (form : FormTree) (lines : List ℕ) : Type 0 where
  pub view : ViewTree
  pub is : slice_get views v ≡ Some view
  pub are : lines ≡ lines_of_view v form view.comp view.doc

-- the same for each view, numbered on from this number
abbrev pub view_lines : ℕ → List FormTree → List ViewTree → List ℕ
view_lines v (form ∷ forms) (view ∷ views) = lines_of_view v form view.comp view.doc ++ view_lines (v + 1) forms views
view_lines v _ _ = []

-- `hub JSON`
abbrev pub hub_line : FormTree → DocTree → List ℕ
hub_line form hub = tree_line (codes "hub") (tree_of_document (left_type form) hub)

-- `hub JSON`, and the lines of each view; the hub has the left type of view 0
abbrev pub hub_state_lines : List FormTree → HubTree → List ℕ
hub_state_lines [] h = []
hub_state_lines (form ∷ forms) h = hub_line form h.hub ++ view_lines 0 (form ∷ forms) h.views

-- ---- an item

-- an item is an edit, or the fault of a line that is not an edit
abbrev pub HubItem : Type 0
HubItem = Result (Place × WordTree) LineFault

-- the hub after a step, and the answer; a refused step leaves the hub as it was
abbrev pub answer_of : HubTree → Result (HubTree × CarriedTree) hubs.ViewRefusal → HubTree × HubAnswerTree
answer_of h (Ok r) = (r.0, carried r.1)
answer_of h (Err (hubs.no_view views)) = (h, no_view)
answer_of h (Err (hubs.no_apply at cause)) = (h, no_apply at cause)

module _ {L : Type 0} (lens : OfLens.Ghosts L) where
  -- the hub after an item, and the answer to it
  abbrev pub take_hub_item : List L → HubTree → HubItem → Option (HubTree × HubAnswerTree)
  take_hub_item ls h (Ok e) = option_map (answer_of h) (hub_step lens ls h e)
  take_hub_item ls h (Err fault) = Some (h, no_edit fault)

-- ---- a state

-- the forms of the views' lenses, and the hub
pub record HubState : Type 0 where
  pub forms : List FormTree
  pub hub : HubTree

-- the state lines of a state
abbrev pub hub_state_text : HubState → List ℕ
hub_state_text t = hub_state_lines t.forms t.hub

-- the state after the item with this number, and its answer line
abbrev pub hub_answered : List FormTree → ℕ → HubTree × HubAnswerTree → HubState × Answer
hub_answered forms n s =
    (record { forms = forms; hub = s.0 }, record { line = hub_answer_line n s.1; refused = is_refused_by_hub s.1 })

-- what the item with this number makes of a state: an edit steps the hub, and any other line leaves it
abbrev pub hub_answer : HubState → ℕ → Line → Option (HubState × Answer)
hub_answer t n line = option_map (hub_answered t.forms n) (take_hub_item form_lens t.forms t.hub (edit_of_line line))

-- The hub at its start: the initial documents and the missing complements. A program part has a view at least.
abbrev pub hub_of : List FormTree → HubTree
hub_of [] = record { hub = unit; views = [] }
hub_of (form ∷ forms) = first_hub form_lens form (form ∷ forms)

-- the state before the journal
abbrev pub first_state : List FormTree → HubState
first_state forms = record { forms = forms; hub = hub_of forms }

-- The lenses are those of these forms, and each view's complement and document are in its lens's consistency relation
-- with the hub's document.
abbrev pub IsHubInStep : List FormTree → HubState → Type 0
IsHubInStep forms t = (t.forms ≡ forms) × IsHub form_lens forms t.hub
