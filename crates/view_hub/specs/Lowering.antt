-- What the parts of a step owe each other: which views a word of the hub can be carried to, and which views and words
-- came of it.
use Rattle.std.specs.Prelude.{◌≡◌, true, List, [], ◌∷◌, ◌++◌, map, Option, Some, Ok}
use Rattle.texts.specs.declared.side.Side.TheVariants.{Right}
use Rattle.doc_values.specs.Documents.{DocTree}
use Rattle.doc_values.specs.Typing.{has}
use Rattle.edit_module.specs.Words.{WordTree}
use Rattle.edit_module.specs.Action.{act}
use Rattle.lens_core.specs.declared.lens.EditLens as OfLens
use Rattle.view_hub.specs.Hubs.{ViewTree, lower}

-- a word of the hub is carried to a view
pub record IsLowered (answer : Option (ViewTree × WordTree)) : Type 0 where
  pub result : ViewTree × WordTree
  pub is : answer ≡ Some result

-- these views and words came behind those that were there
pub record Adds (answer : Option (List (ViewTree × WordTree))) (views : List ViewTree) (words : List WordTree)
    (new_views : List ViewTree) (new_words : List WordTree) : Type 0 where
  pub results : List (ViewTree × WordTree)
  pub is : answer ≡ Some results
  pub views_are : new_views ≡ views ++ map (λ r. r.0) results
  pub words_are : new_words ≡ words ++ map (λ r. r.1) results

module _ {L : Type 0} (lens : OfLens.Ghosts L) where
  -- the word of a view acted on its document and was carried to the word of the hub, which acted on the hub's document
  pub record IsLifted (l : L) (hub : DocTree) (v : ViewTree) (w : WordTree) (new : ViewTree) (up : WordTree)
      (new_hub : DocTree) : Type 0 where
    pub acts : act (lens.right_type l) w v.doc ≡ Ok new.doc
    pub carries : lens.carried l Right v.comp w ≡ Some (up, new.comp)
    pub hub_acts : act (lens.left_type l) up hub ≡ Ok new_hub

  -- each view has its type, and the word of the hub is carried to it
  abbrev pub CanLower : WordTree → List L → List ViewTree → Type 0
  CanLower w [] [] = Unit {0}
  CanLower w (l ∷ ls) (v ∷ vs) = (has (lens.right_type l) v.doc ≡ true) × IsLowered (lower lens l w v)
      × CanLower w ls vs
  CanLower w _ _ = ⊥
