-- When a lens is that of a form, whatever it is made of: what ties a type parameter of a call to the definitions over
-- forms.
use Rattle.std.specs.Prelude.{◌≡◌, ◌↔◌, Option}
use Rattle.texts.specs.declared.side.Side.{Side}
use Rattle.doc_values.specs.Documents.{DocTree}
use Rattle.doc_values.specs.Types.{TyTree}
use Rattle.edit_module.specs.Words.{WordTree}
use Rattle.lens_forms.specs.Forms.{FormTree, left_type, right_type}
use Rattle.lens_core.specs.Complements.{CompTree, missing}
use Rattle.lens_core.specs.Consistency.{IsConsistent}
use Rattle.lens_core.specs.Translation.{Translated, translate}

-- A lens of these types, this first complement, this relation and this translation is that of the form: the two types
-- are those of the form, it starts with the missing complement, relates what the form relates, and translates as the
-- form does.
pub record IsLensOf (left right : TyTree) (start : CompTree) (holds : DocTree → CompTree → DocTree → Type 0)
    (translation : Side → CompTree → WordTree → Option Translated) (form : FormTree) : Type 0 where
  pub left_is : left ≡ left_type form
  pub right_is : right ≡ right_type form
  pub starts : start ≡ missing form
  pub relates : (x : DocTree) (c : CompTree) (y : DocTree) → holds x c y ↔ IsConsistent form x c y
  pub translates : translation ≡ translate form
