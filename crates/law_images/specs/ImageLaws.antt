-- The law of images. The first part is what a caller has of it; the second is the form in which each constructor keeps
-- it. From the end: `ImageLaw`; for a caller `DecidesConsistency` and `ImagesAreExact`.
use Rattle.std.specs.Prelude.{◌≡◌, IsTrue, Option, None, Some}
use Rattle.texts.specs.declared.side.Side.{Side}
use Rattle.texts.specs.declared.side.Side.TheVariants.{Left}
use Rattle.texts.specs.Sides.{other}
use Rattle.doc_values.specs.Documents.{DocTree}
use Rattle.doc_values.specs.Typing.{has}
use Rattle.lens_forms.specs.Forms.{FormTree, left_type, right_type}
use Rattle.lens_core.specs.Sides.{type_on}
use Rattle.lens_core.specs.Complements.{CompTree, Fits}
use Rattle.lens_core.specs.Consistency.{IsConsistent}
use Rattle.lens_core.specs.Laws.{IsRelated}
use Rattle.law_images.specs.Patterns.{PatternTree, Matches, IsIn, HasSome, is_of_type, pattern_of}
use Rattle.law_images.specs.Image.{image}

-- ---- for callers

-- some document in the pattern is consistent with the document w of the other side
abbrev pub IsReached : FormTree → Side → CompTree → PatternTree → DocTree → Type 0
IsReached l s c p w = (v : DocTree) × Matches p v × IsRelated l s v c w

-- the pattern q is of the other side's type, a document of that type is in it if and only if it is reached, and one is
pub record IsExact (l : FormTree) (s : Side) (c : CompTree) (p q : PatternTree) : Type 0 where
  pub of_type : IsTrue (is_of_type q (type_on (other s) l))
  pub some_document : (w : DocTree) × IsReached l s c p w
  pub documents_are_reached : (w : DocTree) → IsIn (type_on (other s) l) q w → IsReached l s c p w
  pub reached_are_documents : (w : DocTree) → IsReached l s c p w → IsIn (type_on (other s) l) q w

-- an image is exact, and there is none if and only if no document is reached
abbrev pub IsExactImage : FormTree → Side → CompTree → PatternTree → Option PatternTree → Type 0
IsExactImage l s c p None = (w : DocTree) → IsReached l s c p w → ⊥
IsExactImage l s c p (Some q) = IsExact l s c p q

-- images are exact, for each complement that fits and each pattern of the type
abbrev pub ImagesAreExact : FormTree → Type 0
ImagesAreExact l = (s : Side) (c : CompTree) (p : PatternTree) → Fits l c → IsTrue (is_of_type p (type_on s l))
    → IsExactImage l s c p (image l s c p)

-- the left document has its type, the complement fits, and the right document is in the image of the left one
abbrev pub IsInImage : FormTree → DocTree → CompTree → DocTree → Type 0
IsInImage l x c y =
    IsTrue (has (left_type l) x) × Fits l c × (q : PatternTree) × (image l Left c (pattern_of x) ≡ Some q)
    × IsIn (right_type l) q y

-- a triple is consistent if and only if the right document is in the image of the left one
pub record DecidesConsistency (l : FormTree) : Type 0 where
  pub judged : (x : DocTree) (c : CompTree) (y : DocTree) → IsConsistent l x c y → IsInImage l x c y
  pub consistent : (x : DocTree) (c : CompTree) (y : DocTree) → IsInImage l x c y → IsConsistent l x c y

-- ---- for constructors

-- the documents of the other side that belong to some document in the pattern are those in the image, and there is one
pub record IsImageOf (l : FormTree) (s : Side) (c : CompTree) (p q : PatternTree) : Type 0 where
  pub some_doc : HasSome (type_on (other s) l) q
  pub into : (v w : DocTree) → Matches p v → IsRelated l s v c w → Matches q w
  pub onto : (w : DocTree) → IsTrue (has (type_on (other s) l) w) → Matches q w → (v : DocTree) × Matches p v
      × IsRelated l s v c w

abbrev pub IsImage : FormTree → Side → CompTree → PatternTree → Option PatternTree → Type 0
IsImage l s c p None = (v w : DocTree) → Matches p v → IsRelated l s v c w → ⊥
IsImage l s c p (Some q) = IsImageOf l s c p q

-- for each complement that fits and each pattern that has a document of the type
abbrev pub ImageLaw : FormTree → Type 0
ImageLaw l = (s : Side) (c : CompTree) (p : PatternTree) → Fits l c → HasSome (type_on s l) p
    → IsImage l s c p (image l s c p)
