-- A hub that takes a group of edits, and a hub that gets one view more. Read it from the end: `add_view`, then
-- `step_group`.
use Rattle.std.specs.Prelude.{ℕ, ◌+◌, List, [], ◌∷◌, ◌++◌, Option, Some, option_map, option_and_then, Result, Ok, Err}
use Rattle.edit_module.specs.Words.{WordTree}
use Rattle.lens_core.specs.declared.lens.EditLens as OfLens
use Rattle.view_hub.specs.Hubs.{ViewTree, HubTree, Place, CarriedTree, ViewRefusal, lower, hub_step, first_view}

-- ---- a group

-- why a group is refused: the number of its first edit that is refused, from 0, and why that edit is
abbrev pub RefusedPart : Type 0
RefusedPart = ℕ × ViewRefusal

-- the hub after a group, and the words that acted in each of its edits; or why the group is refused
abbrev pub GroupStepped : Type 0
GroupStepped = Result (HubTree × List CarriedTree) RefusedPart

-- what the other edits make, with the words of the first one in front of theirs; they are numbered from 1 on
abbrev pub with_words : CarriedTree → GroupStepped → GroupStepped
with_words c (Ok s) = Ok (s.0, c ∷ s.1)
with_words c (Err why) = Err (why.0 + 1, why.1)

-- the first edit was accepted and the others go on from its hub, or it was refused and the group with it
abbrev pub then_others : (HubTree → Option GroupStepped) → Result (HubTree × CarriedTree) ViewRefusal
    → Option GroupStepped
then_others others (Ok s) = option_map (with_words s.1) (others s.0)
then_others others (Err why) = Some (Err (0, why))

-- ---- a view more

-- the hub with this view behind the others
abbrev pub with_view : HubTree → ViewTree → HubTree
with_view h v = record { hub = h.hub; views = h.views ++ v ∷ [] }

module _ {L : Type 0} (lens : OfLens.Ghosts L) where
  -- What the edits of a group make of a hub, each from the hub that the one before it left. The first that is refused
  -- refuses them all. No edits leave the hub as it is.
  abbrev pub step_group : List L → HubTree → List (Place × WordTree) → Option GroupStepped
  step_group ls h [] = Some (Ok (h, []))
  step_group ls h (e ∷ es) = option_and_then (then_others (λ next. step_group ls next es)) (hub_step lens ls h e)

  -- the hub with a view more: what its lens makes, from its start, of a word that makes the hub's document
  abbrev pub add_view : L → WordTree → HubTree → Option HubTree
  add_view l w h = option_map (λ r. with_view h r.0) (lower lens l w (first_view lens l))
