-- For the helpers of `undo_changes`: the words of entries that were stepped, one after another.
-- Read it from the end: `Stepping`, `StepsOver`, `UndoesEntry`, then `joined_all`.
use Rattle.std.specs.Prelude.{◌≡◌, Bool, true, false, List, [], ◌∷◌, ◌++◌, Option, Some, None, option_map, Ok, Err}
use Rattle.texts.specs.declared.side.Side.{Side}
use Rattle.doc_values.specs.Documents.{DocTree}
use Rattle.doc_values.specs.Types.{TyTree}
use Rattle.edit_inverse.specs.Inverse.{inverse}
use Rattle.edit_inverse.specs.Laws.{TakesBack}
use Rattle.edit_module.specs.Action.{Why, act}
use Rattle.edit_module.specs.Views.{word_tree}
use Rattle.edit_module.specs.Words.{WordTree}
use Rattle.edit_module.specs.declared.word.Word.{Word}
use Rattle.lens_core.specs.Complements.{CompTree}
use Rattle.lens_core.specs.Translation.{Translated}
use Rattle.edit_session.specs.Step.{TripleTree, Stepped, step}
use Rattle.edit_undo.specs.Undone.{BothTrees, no_words, joined_both, undone_entry, undone_behind, undone_each}
use Rattle.edit_undo.specs.Undone.{BringsBack}

-- on each side the last of the words, then the one before it, down to the first
abbrev pub joined_all : List BothTrees → BothTrees
joined_all [] = no_words
joined_all (b ∷ bs) = joined_both (joined_all bs) b

-- the word takes the document back over the other one; there is none if that one does not act
abbrev pub IsBack : TyTree → WordTree → DocTree → Option Word → Type 0
IsBack ty word doc (Some back) =
    (word_tree back ≡ inverse ty word doc) × TakesBack ty (word_tree back) (act ty word doc) doc
IsBack ty word doc None = (why : Why) × (act ty word doc ≡ Err why)

-- the step was made and has this carried word; there is none if it is refused
abbrev pub IsStep : Option Stepped → TripleTree → Option Word → Type 0
IsStep made u (Some word) = made ≡ Some (Ok (u, word_tree word))
IsStep made u None = (why : Why) × (made ≡ Some (Err why))

module _ (left right : TyTree) (carried : Side → CompTree → WordTree → Option Translated) where
  -- the entry goes from the one triple to the other, and these are the words of its step; there are none if it is
  -- refused
  abbrev pub UndoesEntry : TripleTree → Side × WordTree → TripleTree → Option BothTrees → Type 0
  UndoesEntry t e u (Some words) = (word : WordTree) × (step left right carried t e ≡ Some (Ok (u, word)))
      × (words ≡ undone_entry left right t e word) × BringsBack left right words u t
  UndoesEntry t e u None = (why : Why) × (step left right carried t e ≡ Some (Err why))

  -- These entries go from the one triple to the other, whatever entries follow, and these are the words of their steps.
  pub record StepsOver (t : TripleTree) (es : List (Side × WordTree)) (words : List BothTrees)
      (u : TripleTree) : Type 0 where
    pub goes : (more : List (Side × WordTree))
        → undone_each left right carried t (es ++ more)
        ≡ option_map (undone_behind (joined_all words)) (undone_each left right carried u more)
    pub back : BringsBack left right (joined_all words) u t

  -- an entry among these is refused, whatever entries follow
  abbrev pub Fails : TripleTree → List (Side × WordTree) → Type 0
  Fails t es = (more : List (Side × WordTree)) → undone_each left right carried t (es ++ more) ≡ None

  -- The entries were stepped, and their words were added to those from before. Or an entry is refused.
  abbrev pub Stepping : Bool → TripleTree → List (Side × WordTree) → List BothTrees → List BothTrees → TripleTree
      → Type 0
  Stepping true t es before after u = (words : List BothTrees) × (after ≡ before ++ words) × StepsOver t es words u
  Stepping false t es before after u = Fails t es
