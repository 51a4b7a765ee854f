-- How contracts see a hub, its views and the answers of a step.
use Rattle.std.specs.Prelude.{◌≡◌, ℕ, List, map, Option, Some, Result, Ok, Err, MatchResult, refl}
use Rattle.std.specs.Coded.{Coded, code_by, coded×, coded_list}
use Rattle.doc_values.specs.Documents.{DocTree, doc_tree}
use Rattle.edit_module.specs.Action.{Why}
use Rattle.edit_module.specs.Words.{WordTree}
use Rattle.edit_module.specs.declared.word.Word.{Word}
use Rattle.edit_module.specs.Views.{word_tree, word_trees}
use Rattle.edit_module.specs.declared.fault.ActFault.{ActFault}
use Rattle.edit_module.specs.declared.fault.ActFault.TheVariants as action
use Rattle.lens_core.specs.Complements.{comp_tree}
use Rattle.lens_core.specs.declared.lens.EditLens as OfLens
use Rattle.view_hub.specs.declared.fault.HubFault.{HubFault}
use Rattle.view_hub.specs.declared.fault.HubFault.TheVariants.{NoView, NoApply, NoMemory}
use Rattle.view_hub.specs.declared.fault.HubGroupFault.{HubGroupFault}
use Rattle.view_hub.specs.declared.fault.HubGroupFault.TheVariants as of_groups
use Rattle.view_hub.specs.declared.side.HubCarried.{HubCarried}
use Rattle.view_hub.specs.declared.side.HubSide.{HubSide}
use Rattle.view_hub.specs.declared.side.HubSide.TheVariants.{Hub, View}
use Rattle.view_hub.specs.declared.view.HubParts.{HubParts}
use Rattle.view_hub.specs.declared.view.View as a_view
use Rattle.view_hub.specs.Groups.{GroupStepped}
use Rattle.view_hub.specs.Hubs.{ViewTree, HubTree, Place, at_hub, at_view, CarriedTree, ViewRefusal, no_view, no_apply}
use Rattle.view_hub.specs.Hubs.{hub_step}

-- the lenses and the parts of a hub
pub record HubOf (L : Type 0) : Type 0 where
  pub lenses : List L
  pub parts : HubParts

abbrev pub hub_code : {L : Type 0} → Coded L → Coded HubParts → Coded (HubOf L)
hub_code {L} lens parts =
    code_by (List L × HubParts) (coded× (coded_list lens) parts) (λ h. (h.lenses, h.parts))
    (λ p. record { lenses = p.0; parts = p.1 }) (λ _. refl)

abbrev pub view_tree : a_view.View → ViewTree
view_tree v = record { comp = comp_tree v.comp; doc = doc_tree v.doc.value }

abbrev pub view_trees : List a_view.View → List ViewTree
view_trees vs = map view_tree vs

abbrev pub hub_tree : HubParts → HubTree
hub_tree p = record { hub = doc_tree p.hub.value; views = view_trees p.views.items }

abbrev pub place_of_side : HubSide → Place
place_of_side Hub = at_hub
place_of_side (View k) = at_view k

-- an edit: the document that is edited, and the word
abbrev pub edit_tree : HubSide × Word → Place × WordTree
edit_tree e = (place_of_side e.0, word_tree e.1)

abbrev pub edit_trees : List (HubSide × Word) → List (Place × WordTree)
edit_trees es = map edit_tree es

abbrev pub hub_carried_tree : HubCarried → CarriedTree
hub_carried_tree c = record { hub = word_tree c.hub; views = word_trees c.views }

-- a step is refused for the reason that the definition has; running out of memory says nothing
abbrev pub IsHubRefusal : Option (Result (HubTree × CarriedTree) ViewRefusal) → HubFault → Type 0
IsHubRefusal answer (NoView views) = answer ≡ Some (Err (no_view views))
IsHubRefusal answer (NoApply at cause) = answer ≡ Some (Err (no_apply at cause))
IsHubRefusal answer NoMemory = Unit {0}

-- a group is refused for the reason that the definition has, at the edit that it has; running out of memory says
-- nothing
abbrev pub IsGroupRefusal : Option GroupStepped → HubGroupFault → Type 0
IsGroupRefusal answer (of_groups.NoView part views) = answer ≡ Some (Err (part, no_view views))
IsGroupRefusal answer (of_groups.NoApply part at cause) = answer ≡ Some (Err (part, no_apply at cause))
IsGroupRefusal answer of_groups.NoMemory = Unit {0}

-- the edit with this number in a group is refused as the definition refuses it
abbrev pub IsPartRefusal : ℕ → Option (Result (HubTree × CarriedTree) ViewRefusal) → HubGroupFault → Type 0
IsPartRefusal number answer (of_groups.NoView part views) = (part ≡ number) × (answer ≡ Some (Err (no_view views)))
IsPartRefusal number answer (of_groups.NoApply part at cause) =
    (part ≡ number) × (answer ≡ Some (Err (no_apply at cause)))
IsPartRefusal number answer of_groups.NoMemory = Unit {0}

-- the hub's fault for an action's
abbrev pub of_action : ActFault → HubFault
of_action (action.NoApply at cause) = NoApply at cause
of_action action.NoMemory = NoMemory

-- a word is refused at the edited document with the number and the cause that the definition has
abbrev pub IsActionFault : Result DocTree Why → HubFault → Type 0
IsActionFault answer (NoView views) = ⊥
IsActionFault answer (NoApply at cause) = answer ≡ Err (at, cause)
IsActionFault answer NoMemory = Unit {0}

module _ {L : Type 0} (lens : OfLens.Ghosts L) where
  -- the parts and the words after a step of a hub of these lenses are those of the definition, or the step is refused
  -- as there
  abbrev pub IsNextOutcome : List L → HubTree → Place × WordTree → Result (HubParts × HubCarried) HubFault → Type 0
  IsNextOutcome ls h e result =
      MatchResult result (λ r. hub_step lens ls h e ≡ Some (Ok (hub_tree r.0, hub_carried_tree r.1)))
      (IsHubRefusal (hub_step lens ls h e))

  -- a step returns the words of the definition and leaves the hub that it makes, or it is refused as there
  abbrev pub IsOutcome : HubOf L → Place × WordTree → HubOf L → Result HubCarried HubFault → Type 0
  IsOutcome old e new result =
      MatchResult result (λ c. hub_step lens old.lenses (hub_tree old.parts) e
      ≡ Some (Ok (hub_tree new.parts, hub_carried_tree c)))
      (IsHubRefusal (hub_step lens old.lenses (hub_tree old.parts) e))
