-- A run: the items of a journal, one after another. A lens comes as its two types and its translation of words; F is
-- the type of what may be wrong with a line. Read it from the end: `GroupsStayInStep`, `RunsStayInStep`, `run`, then
-- `AnswerTree` and `Item`.
use Rattle.std.specs.Prelude.{◌≡◌, ℕ, List, [], ◌∷◌, Bool, true, false, Option, Some, option_map, option_and_then}
use Rattle.std.specs.Prelude.{Result, Ok, Err, map}
use Rattle.std.specs.List.{list_any, All}
use Rattle.texts.specs.declared.side.Side.{Side}
use Rattle.texts.specs.Sides.{other}
use Rattle.doc_values.specs.Documents.{DocTree}
use Rattle.doc_values.specs.Types.{TyTree}
use Rattle.edit_module.specs.Words.{WordTree}
use Rattle.edit_module.specs.Changes.{ChangeTree, one, group, carried_to}
use Rattle.edit_module.specs.declared.fault.Cause.{Cause}
use Rattle.lens_core.specs.Complements.{CompTree}
use Rattle.lens_core.specs.Translation.{Translated}
use Rattle.edit_session.specs.Step.{TripleTree, IsInStep, Stepped, step, AllStepped, step_each, inner_triples}

-- an item is a change, or the fault of a line that is not a change
abbrev pub Item : Type 0 → Type 0
Item F = Result ChangeTree F

-- The answer to an item. An entry was carried to a word of the other side, which is named; or it does not apply, with
-- the number of the first primitive that fails and its cause. A group was carried to words, each with the side to which
-- it was carried; or it is refused, with the number in the group of the first entry that does not apply, and in that
-- entry the number of the first primitive that fails and its cause. Or the line is not a change, for this fault.
pub data AnswerTree (F : Type 0) : Type 0 where
  carried : Side → WordTree → AnswerTree F
  no_apply : ℕ → Cause → AnswerTree F
  group_carried : List (Side × WordTree) → AnswerTree F
  group_no_apply : ℕ → ℕ → Cause → AnswerTree F
  no_entry : F → AnswerTree F

module _ {F : Type 0} where
  -- the triple after an entry of a side, and the answer to it: an entry that does not apply leaves the triple as it was
  abbrev pub answered : TripleTree → Side → Stepped → TripleTree × AnswerTree F
  answered t side (Ok s) = (s.0, carried (other side) s.1)
  answered t side (Err why) = (t, no_apply why.0 why.1)

  -- the triple after a group of these entries, and the answer to it: a group that is refused leaves the triple as it
  -- was
  abbrev pub group_answered : TripleTree → List (Side × WordTree) → AllStepped → TripleTree × AnswerTree F
  group_answered t es (Ok s) = (s.0, group_carried (carried_to es s.1))
  group_answered t es (Err why) = (t, group_no_apply why.0 why.1.0 why.1.1)

  -- the triple after the last item
  abbrev pub last : TripleTree → List (TripleTree × AnswerTree F) → TripleTree
  last t [] = t
  last t (s ∷ steps) = last s.0 steps

  -- the item was refused
  abbrev pub is_refused : AnswerTree F → Bool
  is_refused (carried side w) = false
  is_refused (no_apply at cause) = true
  is_refused (group_carried words) = false
  is_refused (group_no_apply part at cause) = true
  is_refused (no_entry fault) = true

  -- some item of a run was refused
  abbrev pub any_refused : List (TripleTree × AnswerTree F) → Bool
  any_refused steps = list_any (λ s. is_refused s.1) steps

module _ {F : Type 0} (left : TyTree) (right : TyTree) (translation : Side → CompTree → WordTree
    → Option Translated) where
  -- an entry steps the triple, and so do the entries of a group one after another, or none of them
  abbrev pub take_change : TripleTree → ChangeTree → Option (TripleTree × AnswerTree F)
  take_change t (one e) = option_map (answered t e.0) (step left right translation t e)
  take_change t (group es) = option_map (group_answered t es) (step_each left right translation t es)

  -- a line that is not a change leaves the triple as it was, and its fault is the answer
  abbrev pub take_item : TripleTree → Item F → Option (TripleTree × AnswerTree F)
  take_item t (Ok change) = take_change t change
  take_item t (Err fault) = Some (t, no_entry fault)

  -- for each item in order, the triple after it and the answer to it
  abbrev pub run : TripleTree → List (Item F) → Option (List (TripleTree × AnswerTree F))
  run t [] = Some []
  run t (item ∷ items) = option_and_then (λ s. option_map (λ steps. s ∷ steps) (run s.0 items)) (take_item t item)

  -- every triple of a run from this one on: it, and the one after each item, those after refused items included
  abbrev pub triples : TripleTree → List (Item F) → Option (List TripleTree)
  triples t items = option_map (λ steps. t ∷ map (λ s. s.0) steps) (run t items)

-- every run from a triple that is in step goes on to its end, and all its triples are in step
abbrev pub RunsStayInStep : (F : Type 0) → (DocTree → CompTree → DocTree → Type 0) → TyTree → TyTree
    → (Side → CompTree → WordTree → Option Translated) → Type 0
RunsStayInStep F holds left right translation = (t : TripleTree) (items : List (Item F)) → IsInStep holds t
    → (ts : List TripleTree) × (triples left right translation t items ≡ Some ts) × All (IsInStep holds) ts

-- every group from a triple that is in step comes to its end or to its first refused entry, and the triple after each
-- entry on the way is in step, too
abbrev pub GroupsStayInStep : (DocTree → CompTree → DocTree → Type 0) → TyTree → TyTree
    → (Side → CompTree → WordTree → Option Translated) → Type 0
GroupsStayInStep holds left right translation = (t : TripleTree) (es : List (Side × WordTree)) → IsInStep holds t
    → (ts : List TripleTree) × (inner_triples left right translation t es ≡ Some ts) × All (IsInStep holds) ts
