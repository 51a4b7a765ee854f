-- That the words of a step act on the documents of a hub. Read it from the end: `WordsAct`, then `ActsTo`.
use Rattle.std.specs.Prelude.{◌≡◌, true, List, [], ◌∷◌, Some, Ok}
use Rattle.doc_values.specs.Documents.{DocTree}
use Rattle.doc_values.specs.Typing.{has}
use Rattle.edit_module.specs.Action.{act}
use Rattle.edit_module.specs.Words.{WordTree}
use Rattle.lens_core.specs.declared.lens.EditLens as OfLens
use Rattle.view_hub.specs.Hubs.{ViewTree, HubTree, Place, CarriedTree, hub_step}
use Rattle.view_hub.specs.Laws.{IsHub}

module _ {L : Type 0} (lens : OfLens.Ghosts L) where
  -- there are so many words as views and lenses; each view has its type, and each word acts on its view's document and
  -- makes that of the new view
  abbrev pub ViewsActTo : List L → List ViewTree → List WordTree → List ViewTree → Type 0
  ViewsActTo [] [] [] [] = Unit {0}
  ViewsActTo (l ∷ ls) (v ∷ vs) (w ∷ ws) (u ∷ us) =
      (has (lens.right_type l) v.doc ≡ true) × (act (lens.right_type l) w v.doc ≡ Ok u.doc) × ViewsActTo ls vs ws us
  ViewsActTo _ _ _ _ = ⊥

  -- the same of the hub's document, which has the left type of the first lens; there is a lens
  abbrev pub HubActsTo : List L → DocTree → WordTree → DocTree → Type 0
  HubActsTo [] x w y = ⊥
  HubActsTo (l ∷ ls) x w y = (has (lens.left_type l) x ≡ true) × (act (lens.left_type l) w x ≡ Ok y)

  -- each of these words acts on its document of the one hub, and makes that of the other
  pub record ActsTo (ls : List L) (h : HubTree) (c : CarriedTree) (g : HubTree) : Type 0 where
    pub hub : HubActsTo ls h.hub c.hub g.hub
    pub views : ViewsActTo ls h.views c.views g.views

  -- the words that a step of a hub returns act on its documents, and make those of the hub behind it
  abbrev pub WordsAct : Type 0
  WordsAct = (ls : List L) (h g : HubTree) (e : Place × WordTree) (c : CarriedTree) → IsHub lens ls h
      → hub_step lens ls h e ≡ Some (Ok (g, c)) → ActsTo ls h c g
