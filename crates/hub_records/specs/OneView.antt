-- A hub with one view beside the session of that view's lens: the hub is the left document, and the view has the
-- complement and the right document. Read it from the end: `IsSessionStep` and `IsSessionGroup`.
use Rattle.std.specs.Prelude.{◌≡◌, List, [], ◌∷◌, map, option_map, Ok, Err}
use Rattle.std.specs.declared.result.Result.{Result}
use Rattle.texts.specs.declared.side.Side.{Side}
use Rattle.texts.specs.declared.side.Side.TheVariants.{Left, Right}
use Rattle.edit_module.specs.Words.{WordTree}
use Rattle.edit_session.specs.Step as sessions
use Rattle.edit_session.specs.Step.{TripleTree, Stepped, AllStepped}
use Rattle.lens_core.specs.Translation.{translate}
use Rattle.lens_forms.specs.Forms.{FormTree, left_type, right_type}
use Rattle.view_hub.specs.Groups.{GroupStepped, step_group}
use Rattle.view_hub.specs.Hubs.{HubTree, Place, at_hub, at_view, CarriedTree, ViewRefusal, no_apply, hub_step}
use Rattle.hub_run.specs.FormLenses.{form_lens}

-- the hub with one view of a triple
abbrev pub hub_of_triple : TripleTree → HubTree
hub_of_triple t = record { hub = t.left; views = record { comp = t.comp; doc = t.right } ∷ [] }

-- an entry of a side as an edit: of the hub at the left, and of view 0 at the right
abbrev pub edit_of_entry : Side × WordTree → Place × WordTree
edit_of_entry (Left, w) = (at_hub, w)
edit_of_entry (Right, w) = (at_view 0, w)

-- the words that acted: that of the entry on its side, and the carried one on the other
abbrev pub acting : Side × WordTree → WordTree → CarriedTree
acting (Left, w) far = record { hub = w; views = far ∷ [] }
acting (Right, w) far = record { hub = far; views = w ∷ [] }

abbrev pub acting_each : List (Side × WordTree) → List WordTree → List CarriedTree
acting_each (e ∷ es) (w ∷ ws) = acting e w ∷ acting_each es ws
acting_each _ _ = []

-- what a step of the session is to the hub
abbrev pub hub_stepped : Side × WordTree → Stepped → Result (HubTree × CarriedTree) ViewRefusal
hub_stepped e (Ok s) = Ok (hub_of_triple s.0, acting e s.1)
hub_stepped e (Err why) = Err (no_apply why.0 why.1)

-- what a group of the session is to the hub
abbrev pub hub_grouped : List (Side × WordTree) → AllStepped → GroupStepped
hub_grouped es (Ok s) = Ok (hub_of_triple s.0, acting_each es s.1)
hub_grouped es (Err why) = Err (why.0, no_apply why.1.0 why.1.1)

-- an edit of the hub with one view is the entry of the session
abbrev pub IsSessionStep : FormTree → TripleTree → Side × WordTree → Type 0
IsSessionStep l t e =
    hub_step form_lens (l ∷ []) (hub_of_triple t) (edit_of_entry e)
    ≡ option_map (hub_stepped e) (sessions.step (left_type l) (right_type l) (translate l) t e)

-- and so is a group
abbrev pub IsSessionGroup : FormTree → TripleTree → List (Side × WordTree) → Type 0
IsSessionGroup l t es =
    step_group form_lens (l ∷ []) (hub_of_triple t) (map edit_of_entry es)
    ≡ option_map (hub_grouped es) (sessions.step_each (left_type l) (right_type l) (translate l) t es)
