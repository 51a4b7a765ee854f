-- The laws of a lens. The first part says them of any relation and any translation; the second of the form of a lens.
-- `Laws` is what each constructor keeps, primitive by primitive; the promises for whole words follow from it.
use Rattle.std.specs.Prelude.{◌≡◌, IsTrue, Some, Option, option_map, option_and_then, Ok}
use Rattle.texts.specs.declared.side.Side.{Side}
use Rattle.texts.specs.declared.side.Side.TheVariants.{Left, Right}
use Rattle.texts.specs.Sides.{other}
use Rattle.doc_values.specs.Documents.{DocTree}
use Rattle.doc_values.specs.Types.{TyTree, is_well_formed}
use Rattle.doc_values.specs.Typing.{has}
use Rattle.doc_values.specs.Initial.{initial}
use Rattle.edit_module.specs.Words.{PrimitiveTree, WordTree, no_primitives, joined}
use Rattle.edit_module.specs.Action.{act, act_primitive}
use Rattle.lens_forms.specs.Forms.{FormTree, left_type, right_type}
use Rattle.lens_core.specs.Sides.{type_on}
use Rattle.lens_core.specs.Emitted.{behind}
use Rattle.lens_core.specs.Complements.{CompTree, missing}
use Rattle.lens_core.specs.Consistency.{IsConsistent, AreTyped}
use Rattle.lens_core.specs.Translation.{Translated, translate_one, translate}

-- ---- of any relation and translation

-- a relation of a left document, a complement and a right document, with the document of the edited side first
abbrev pub SeenFrom : Side → (DocTree → CompTree → DocTree → Type 0) → DocTree → CompTree → DocTree → Type 0
SeenFrom Left holds x c y = holds x c y
SeenFrom Right holds y c x = holds x c y

-- what a word was translated to acts on the other document y, and is consistent with the new document x' of the edited
-- side
pub record IsCarried (holds : DocTree → CompTree → DocTree → Type 0) (far_type : TyTree) (side : Side) (x' : DocTree)
    (y : DocTree) (translated : Option Translated) : Type 0 where
  pub word : WordTree
  pub comp : CompTree
  pub document : DocTree
  pub carried : translated ≡ Some (word, comp)
  pub acts : act far_type word y ≡ Ok document
  pub consistent : SeenFrom side holds x' comp document

-- the initial documents of the two types belong together, with the first complement
abbrev pub StartTogether : (DocTree → CompTree → DocTree → Type 0) → TyTree → TyTree → CompTree → Type 0
StartTogether holds left right start = holds (initial left) start (initial right)

-- both types are well formed
abbrev pub TypesAreWellFormed : TyTree → TyTree → Type 0
TypesAreWellFormed left right = IsTrue (is_well_formed left) × IsTrue (is_well_formed right)

-- documents that belong together have their types
abbrev pub TogetherAreTyped : (DocTree → CompTree → DocTree → Type 0) → TyTree → TyTree → Type 0
TogetherAreTyped holds left right = (x : DocTree) (c : CompTree) (y : DocTree) → holds x c y → IsTrue (has left x)
    × IsTrue (has right y)

-- each word that acts on the document of the edited side, of a triple that belongs together, is translated; the
-- translated word acts on the other document, and the three new ones belong together
abbrev pub WordsCarry : (DocTree → CompTree → DocTree → Type 0) → TyTree → TyTree → Side
    → (CompTree → WordTree → Option Translated) → Type 0
WordsCarry holds near_type far_type side translation = (w : WordTree) (x : DocTree) (c : CompTree) (y x' : DocTree)
    → SeenFrom side holds x c y → act near_type w x ≡ Ok x' → IsCarried holds far_type side x' y (translation c w)

-- the empty word is translated to the empty word with the same complement
abbrev pub EmptyIsKept : (Side → CompTree → WordTree → Option Translated) → Type 0
EmptyIsKept translation = (side : Side) (c : CompTree) → translation side c no_primitives ≡ Some (no_primitives, c)

-- a joined word is translated by translating its first part, then the second with the complement that the first left,
-- and joining the words
abbrev pub JoinedInTurn : (Side → CompTree → WordTree → Option Translated) → Type 0
JoinedInTurn translation = (side : Side) (c : CompTree) (u w : WordTree)
    → translation side c (joined u w) ≡ option_and_then (λ r. option_map (behind r.0) (translation side r.1 w))
    (translation side c u)

-- ---- of a form

-- the consistency relation with the document of the edited side first
abbrev pub IsRelated : FormTree → Side → DocTree → CompTree → DocTree → Type 0
IsRelated form side = SeenFrom side (IsConsistent form)

-- what a word was translated to, for the lens of a form
abbrev pub Carries : FormTree → Side → DocTree → DocTree → Option Translated → Type 0
Carries form side = IsCarried (IsConsistent form) (type_on (other side) form) side

-- the types are well formed; the initial triple is consistent; and each primitive that acts on a document of a
-- consistent triple is translated so that the three new ones are consistent
pub record Laws (form : FormTree) : Type 0 where
  pub sound : (side : Side) → IsTrue (is_well_formed (type_on side form))
  pub starts : IsConsistent form (initial (left_type form)) (missing form) (initial (right_type form))
  pub step : (side : Side) (p : PrimitiveTree) (x : DocTree) (c : CompTree) (y x' : DocTree)
      → IsRelated form side x c y → act_primitive (type_on side form) p x ≡ Ok x'
      → Carries form side x' y (translate_one form side c p)

-- starts consistent
abbrev pub StartsConsistent : FormTree → Type 0
StartsConsistent form = StartTogether (IsConsistent form) (left_type form) (right_type form) (missing form)

-- consistent documents have their types, and the complement fits
abbrev pub ConsistentIsTyped : FormTree → Type 0
ConsistentIsTyped form = (x : DocTree) (c : CompTree) (y : DocTree) → IsConsistent form x c y → AreTyped form x c y

-- left edits carry, and right edits carry
abbrev pub EditsCarry : FormTree → Side → Type 0
EditsCarry form side = WordsCarry (IsConsistent form) (type_on side form) (type_on (other side) form) side
    (translate form side)

-- words compose
abbrev pub EmptyStays : FormTree → Type 0
EmptyStays form = EmptyIsKept (translate form)

abbrev pub WordsCompose : FormTree → Type 0
WordsCompose form = JoinedInTurn (translate form)
