-- The words that take all documents of a hub back over some edits. Read it from the end: `HubBringsBack`, `hub_undone`,
-- then `undone_step`.
use Rattle.std.specs.Prelude.{◌≡◌, ℕ, zero, suc, List, [], ◌∷◌, Option, Some, None, option_and_then}
use Rattle.std.specs.Prelude.{length, Result, Ok, Err}
use Rattle.doc_values.specs.Documents.{DocTree}
use Rattle.edit_inverse.specs.Inverse.{inverse}
use Rattle.edit_module.specs.Action.{act}
use Rattle.edit_module.specs.Words.{WordTree, no_primitives, joined}
use Rattle.lens_core.specs.declared.lens.EditLens as OfLens
use Rattle.view_hub.specs.Hubs.{ViewTree, HubTree, Place, CarriedTree, ViewRefusal, hub_step}

-- ---- words of all documents

-- the words that do nothing, for so many views
abbrev pub no_view_words : ℕ → List WordTree
no_view_words zero = []
no_view_words (suc n) = no_primitives ∷ no_view_words n

abbrev pub no_hub_words : ℕ → CarriedTree
no_hub_words n = record { hub = no_primitives; views = no_view_words n }

-- at each view the first word and then the second
abbrev pub joined_views : List WordTree → List WordTree → List WordTree
joined_views (v ∷ vs) (w ∷ ws) = joined v w ∷ joined_views vs ws
joined_views _ _ = []

-- the same at the hub too
abbrev pub joined_carried : CarriedTree → CarriedTree → CarriedTree
joined_carried first second =
    record { hub = joined first.hub second.hub; views = joined_views first.views second.views }

module _ {L : Type 0} (lens : OfLens.Ghosts L) where
  -- ---- one edit

  -- the inverses of the words that acted on the views
  abbrev pub undone_views : List L → List ViewTree → List WordTree → List WordTree
  undone_views (l ∷ ls) (v ∷ vs) (w ∷ ws) = inverse (lens.right_type l) w v.doc ∷ undone_views ls vs ws
  undone_views _ _ _ = []

  -- The inverses of the words that acted on a hub. The hub's document has the left type of the first lens.
  abbrev pub undone_step : List L → HubTree → CarriedTree → CarriedTree
  undone_step [] h c = no_hub_words 0
  undone_step (l ∷ ls) h c = record {
    hub = inverse (lens.left_type l) c.hub h.hub;
    views = undone_views (l ∷ ls) h.views c.views;
  }

  -- ---- edits, one after another

  -- the edit was accepted, and the others go on from its hub, with the words that take it back in front of the others
  abbrev pub hub_undone_first : (CarriedTree → CarriedTree) → (CarriedTree → HubTree → Option (HubTree × CarriedTree))
      → Result (HubTree × CarriedTree) ViewRefusal → Option (HubTree × CarriedTree)
  hub_undone_first back others (Ok s) = others (back s.1) s.0
  hub_undone_first back others (Err why) = None

  -- the same for edits behind others, which these words take back
  abbrev pub hub_undone_behind : List L → CarriedTree → HubTree → List (Place × WordTree)
      → Option (HubTree × CarriedTree)
  hub_undone_behind ls words h [] = Some (h, words)
  hub_undone_behind ls words h (e ∷ es) =
      option_and_then
      (hub_undone_first (λ c. joined_carried (undone_step ls h c) words)
      (λ more next. hub_undone_behind ls more next es))
      (hub_step lens ls h e)

  -- The hub after some edits, each from the hub that the one before it left, and the words that take its documents back
  -- to those of the first hub. Each word joins, from the last edit to the first, the inverses of the words that acted
  -- on its document. There are none if an edit is refused.
  abbrev pub hub_undone : List L → HubTree → List (Place × WordTree) → Option (HubTree × CarriedTree)
  hub_undone ls h es = hub_undone_behind ls (no_hub_words (length ls)) h es

  -- ---- what the words do

  -- the words act on the documents of the views that there are now, and make those that there were
  abbrev pub BringViewsBack : List L → List WordTree → List ViewTree → List ViewTree → Type 0
  BringViewsBack [] [] [] [] = Unit {0}
  BringViewsBack (l ∷ ls) (w ∷ ws) (v ∷ vs) (u ∷ us) =
      (act (lens.right_type l) w v.doc ≡ Ok u.doc) × BringViewsBack ls ws vs us
  BringViewsBack _ _ _ _ = ⊥

  -- the same of the hub's document, which has the left type of the first lens
  abbrev pub BringHubBack : List L → WordTree → DocTree → DocTree → Type 0
  BringHubBack [] w now was = Unit {0}
  BringHubBack (l ∷ ls) w now was = act (lens.left_type l) w now ≡ Ok was

  -- the words act on all documents that there are now, and make those that there were
  pub record HubBringsBack (ls : List L) (words : CarriedTree) (now was : HubTree) : Type 0 where
    pub hub_back : BringHubBack ls words.hub now.hub was.hub
    pub views_back : BringViewsBack ls words.views now.views was.views
