-- The laws of words that make a document and of words that take one back.
-- In order: `ConstructMakes`, `InverseTakesBack`, `TextsAreMet`, `ActionKeepsTexts`, `TakesBack`.
use Rattle.std.specs.Prelude.{◌≡◌, true, Result, Ok, Err}
use Rattle.doc_values.specs.Documents.{DocTree}
use Rattle.doc_values.specs.Types.{TyTree, is_well_formed}
use Rattle.doc_values.specs.Typing.{has}
use Rattle.doc_values.specs.Initial.{initial}
use Rattle.edit_module.specs.Words.{WordTree}
use Rattle.edit_module.specs.Action.{Why, act}
use Rattle.edit_inverse.specs.Construct.{construct}
use Rattle.edit_inverse.specs.Inverse.{inverse}
use Rattle.edit_inverse.specs.Texts.{TypeTexts, HasTexts, WordTexts, MeetsTexts}

-- the word that makes a document makes it from the initial value of its type
abbrev pub ConstructMakes : Type 0
ConstructMakes = (t : TyTree) (v : DocTree) → is_well_formed t ≡ true → has t v ≡ true
    → act t (construct t v) (initial t) ≡ Ok v

-- the inverse of a word that acts takes the result back to the document that there was
abbrev pub InverseTakesBack : Type 0
InverseTakesBack = (t : TyTree) (w : WordTree) (v u : DocTree) → is_well_formed t ≡ true → has t v ≡ true
    → MeetsTexts t w v
    → act t w v ≡ Ok u → act t (inverse t w v) u ≡ Ok v

-- where all texts of a type, a document and a word are UTF-8, the word meets no others
abbrev pub TextsAreMet : Type 0
TextsAreMet = (t : TyTree) (w : WordTree) (v : DocTree) → TypeTexts t → HasTexts v → WordTexts w → MeetsTexts t w v

-- the value of such a word has texts that are UTF-8
abbrev pub ActionKeepsTexts : Type 0
ActionKeepsTexts = (t : TyTree) (w : WordTree) (v u : DocTree) → TypeTexts t → HasTexts v → WordTexts w
    → act t w v ≡ Ok u → HasTexts u

-- another word had this answer on a document, which is a value; the word takes that value back to the document
abbrev pub TakesBack : TyTree → WordTree → Result DocTree Why → DocTree → Type 0
TakesBack t back (Ok u) v = act t back u ≡ Ok v
TakesBack t back (Err why) v = ⊥
