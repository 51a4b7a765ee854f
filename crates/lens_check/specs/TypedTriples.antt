-- What is asked of two documents and a complement before their images are.
use Rattle.std.specs.Prelude.{IsTrue}
use Rattle.doc_values.specs.Documents.{DocTree}
use Rattle.doc_values.specs.Typing.{has}
use Rattle.lens_forms.specs.Forms.{FormTree, left_type, right_type}
use Rattle.lens_core.specs.Complements.{CompTree, Fits}

-- both documents have their types, and the complement fits
pub record AreTyped (l : FormTree) (x : DocTree) (c : CompTree) (y : DocTree) : Type 0 where
  pub left_has : IsTrue (has (left_type l) x)
  pub comp_fits : Fits l c
  pub right_has : IsTrue (has (right_type l) y)
