-- For the helpers of `undo_changes`: the words of edits that were stepped, one after another.
-- Read it from the end: `Stepping`, `StepsOver`, `UndoesEdit`, then `joined_all`.
use Rattle.std.specs.Prelude.{◌≡◌, ℕ, Bool, true, false, List, [], ◌∷◌, ◌++◌, length, Option, Some, None, Ok, Err}
use Rattle.edit_module.specs.Words.{WordTree}
use Rattle.lens_core.specs.declared.lens.EditLens as OfLens
use Rattle.view_hub.specs.Hubs.{HubTree, Place, CarriedTree, ViewRefusal, hub_step}
use Rattle.hub_undo.specs.HubUndone.{HubBringsBack, joined_carried, no_hub_words, hub_undone_behind, undone_step}

-- at each document the last of the words, then the one before it, down to the first
abbrev pub joined_all : ℕ → List CarriedTree → CarriedTree
joined_all n [] = no_hub_words n
joined_all n (c ∷ cs) = joined_carried (joined_all n cs) c

-- the same in front of the words of what came before
abbrev pub in_front : List CarriedTree → CarriedTree → CarriedTree
in_front [] words = words
in_front (c ∷ cs) words = in_front cs (joined_carried c words)

-- each of these has a word for each of so many views
abbrev pub HasViews : ℕ → List CarriedTree → Type 0
HasViews n [] = Unit {0}
HasViews n (c ∷ cs) = (length c.views ≡ n) × HasViews n cs

module _ {L : Type 0} (lens : OfLens.Ghosts L) where
  -- the edit goes from the one hub to the other, and these are the inverses of its words; there are none if it is
  -- refused
  abbrev pub UndoesEdit : List L → HubTree → Place × WordTree → HubTree → Option CarriedTree → Type 0
  UndoesEdit ls h e g (Some words) =
      (c : CarriedTree) × (hub_step lens ls h e ≡ Some (Ok (g, c)))
      × (words ≡ undone_step lens ls h c) × HubBringsBack lens ls words g h
  UndoesEdit ls h e g None = (why : ViewRefusal) × (hub_step lens ls h e ≡ Some (Err why))

  -- These edits go from the one hub to the other, whatever edits follow and whatever words are behind theirs.
  pub record StepsOver (ls : List L) (h : HubTree) (es : List (Place × WordTree)) (words : List CarriedTree)
      (g : HubTree) : Type 0 where
    pub goes : (behind : CarriedTree) (more : List (Place × WordTree)) → hub_undone_behind lens ls behind h (es ++ more)
        ≡ hub_undone_behind lens ls (in_front words behind) g more
    pub back : (behind : CarriedTree) (was : HubTree) → HubBringsBack lens ls behind h was
        → HubBringsBack lens ls (in_front words behind) g was
    pub views : HasViews (length ls) words

  -- an edit among these is refused, whatever edits follow
  abbrev pub Fails : List L → HubTree → List (Place × WordTree) → Type 0
  Fails ls h es = (behind : CarriedTree) (more : List (Place × WordTree))
      → hub_undone_behind lens ls behind h (es ++ more) ≡ None

  -- The edits were stepped, and their words were added to those from before. Or an edit is refused.
  abbrev pub Stepping : List L → Bool → HubTree → List (Place × WordTree) → List CarriedTree → List CarriedTree
      → HubTree → Type 0
  Stepping ls true h es before after g =
      (words : List CarriedTree) × (after ≡ before ++ words) × StepsOver ls h es words g
  Stepping ls false h es before after g = Fails ls h es
