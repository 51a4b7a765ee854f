-- The words that take both documents of a triple back over some changes. A lens comes as its two types and its
-- translation of words. Read it from the end: `BringsBack`, `undone`, `undone_each`, `undone_entry`, then `BothTrees`.
use Rattle.std.specs.Prelude.{◌≡◌, List, [], ◌∷◌, ◌++◌, Option, Some, None, option_map, option_and_then, Ok, Err}
use Rattle.texts.specs.declared.side.Side.{Side}
use Rattle.texts.specs.declared.side.Side.TheVariants.{Left, Right}
use Rattle.texts.specs.Sides.{other}
use Rattle.doc_values.specs.Types.{TyTree}
use Rattle.edit_module.specs.Action.{act}
use Rattle.edit_module.specs.Words.{WordTree, no_primitives, joined}
use Rattle.edit_module.specs.Changes.{ChangeTree, entries_of}
use Rattle.edit_inverse.specs.Inverse.{inverse}
use Rattle.lens_core.specs.Complements.{CompTree}
use Rattle.lens_core.specs.Sides.{near}
use Rattle.lens_core.specs.Translation.{Translated}
use Rattle.edit_session.specs.Step.{TripleTree, Stepped, document_on, step}

-- a word of the left document, and one of the right document
pub record BothTrees : Type 0 where
  pub left : WordTree
  pub right : WordTree

-- the words that do nothing
abbrev pub no_words : BothTrees
no_words = record { left = no_primitives; right = no_primitives }

-- a word of a side and one of the other side
abbrev pub on_sides : Side → WordTree → WordTree → BothTrees
on_sides Left own far = record { left = own; right = far }
on_sides Right own far = record { left = far; right = own }

-- on each side the first word and then the second
abbrev pub joined_both : BothTrees → BothTrees → BothTrees
joined_both first second = record { left = joined first.left second.left; right = joined first.right second.right }

-- ---- one entry

-- the word that takes the document of a side back over a word that acts on it
abbrev pub undone_on : TyTree → TyTree → TripleTree → Side → WordTree → WordTree
undone_on left right t side word = inverse (near side left right) word (document_on side t)

-- an entry was carried to this word: the inverse of its own word on its side, and that of the carried word on the other
-- side
abbrev pub undone_entry : TyTree → TyTree → TripleTree → Side × WordTree → WordTree → BothTrees
undone_entry left right t e word =
    on_sides e.0 (undone_on left right t e.0 e.1) (undone_on left right t (other e.0) word)

-- ---- entries, one after another

-- the words of the entries behind an entry come before those of the entry itself
abbrev pub undone_behind : BothTrees → TripleTree × BothTrees → TripleTree × BothTrees
undone_behind first r = (r.0, joined_both r.1 first)

-- the entry was accepted, and the others go on from its triple
abbrev pub undone_first : (WordTree → BothTrees) → (TripleTree → Option (TripleTree × BothTrees)) → Stepped
    → Option (TripleTree × BothTrees)
undone_first first others (Ok s) = option_map (undone_behind (first s.1)) (others s.0)
undone_first first others (Err why) = None

-- The triple after some entries, each from the triple that the one before it left, and the words that take its
-- documents back to those of the first triple. There are none if an entry is refused.
abbrev pub undone_each : TyTree → TyTree → (Side → CompTree → WordTree → Option Translated) → TripleTree
    → List (Side × WordTree) → Option (TripleTree × BothTrees)
undone_each left right carried t [] = Some (t, no_words)
undone_each left right carried t (e ∷ es) =
    option_and_then (undone_first (λ word. undone_entry left right t e word)
    (λ next. undone_each left right carried next es))
    (step left right carried t e)

-- ---- changes

-- the entries of some changes, in order
abbrev pub entries_of_all : List ChangeTree → List (Side × WordTree)
entries_of_all [] = []
entries_of_all (c ∷ cs) = entries_of c ++ entries_of_all cs

-- The triple after some changes, and the words that take its documents back. Each word joins, from the last change to
-- the first and in a group from the last entry to the first, the inverses of the words that acted on its side.
abbrev pub undone : TyTree → TyTree → (Side → CompTree → WordTree → Option Translated) → TripleTree → List ChangeTree
    → Option (TripleTree × BothTrees)
undone left right carried t changes = undone_each left right carried t (entries_of_all changes)

-- ---- what the words do

-- the words act on the documents of the one triple, and make those of the other
pub record BringsBack (left right : TyTree) (words : BothTrees) (now was : TripleTree) : Type 0 where
  pub left_back : act left words.left now.left ≡ Ok was.left
  pub right_back : act right words.right now.right ≡ Ok was.right
