-- What is shown of a hub. Read it from the end: `ShowsText`, `IsShow`, then `part_text`.
use Rattle.std.specs.Prelude.{◌≡◌, ℕ, List, [], ◌∷◌, slice_get, Bool, true, false, Option, None, Some, option_map}
use Rattle.std.specs.Prelude.{option_and_then}
use Rattle.serde_json.specs.Written.{compact_text}
use Rattle.value_json.specs.DocumentJson.{tree_of_document}
use Rattle.complement_file.specs.ComplementJson.{tree_of_complement}
use Rattle.lens_forms.specs.Forms.{FormTree, left_type, right_type}
use Rattle.view_hub.specs.Hubs.{ViewTree, HubTree}
use Rattle.hub_run.specs.Runs.{HubState, hub_state_text}
use Rattle.embed_hub.specs.Steps.{hub_state}
use Rattle.embed_hub.specs.declared.outcome.HubPart.{HubPart}
use Rattle.embed_hub.specs.declared.outcome.HubPart.TheVariants as part
use Rattle.embed_hub.specs.declared.running.RunningHub.{RunningHub}

-- the JSON of the hub's document, which has the left type of view 0
abbrev pub hub_text : List FormTree → HubTree → List ℕ
hub_text [] h = []
hub_text (form ∷ forms) h = compact_text (tree_of_document (left_type form) h.hub)

-- a view, with the form of its lens
abbrev pub FormedView : Type 0
FormedView = FormTree × ViewTree

-- the JSON of its document, and of its complement
abbrev pub document_text : FormedView → List ℕ
document_text v = compact_text (tree_of_document (right_type v.0) v.1.doc)

abbrev pub complement_text : FormedView → List ℕ
complement_text v = compact_text (tree_of_complement v.0 v.1.comp)

-- the view with this number, from 0, if there is one
abbrev pub view_at : HubState → ℕ → Option FormedView
view_at t number =
    option_and_then (λ form. option_map (λ view. (form, view)) (slice_get t.hub.views number))
    (slice_get t.forms number)

-- the text of a part; there is none of a view that there is not
abbrev pub part_text : HubState → HubPart → Option (List ℕ)
part_text t part.State = Some (hub_state_text t)
part_text t part.Document = Some (hub_text t.forms t.hub)
part_text t (part.ViewDocument number) = option_map document_text (view_at t number)
part_text t (part.ViewComplement number) = option_map complement_text (view_at t number)

-- the text is that of the part, and all else stays
pub record IsShow (before : RunningHub) (p : HubPart) (after : RunningHub) : Type 0 where
  pub hub : after.hub ≡ before.hub
  pub number : after.number ≡ before.number
  pub text : part_text (hub_state before) p ≡ Some after.text.items

-- the part is shown; or it is one of a view that there is not, and nothing changes
abbrev pub ShowsText : RunningHub → HubPart → Bool → RunningHub → Type 0
ShowsText before p true after = IsShow before p after
ShowsText before p false after = (part_text (hub_state before) p ≡ None) × (after ≡ before)
