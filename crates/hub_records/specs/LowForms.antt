-- That forms and their types are not too high, so that the trees of words and of snapshots do not nest too deep for the
-- reader of JSON.
use Rattle.std.specs.Prelude.{◌≤◌, List, [], ◌∷◌}
use Rattle.doc_values.specs.Types.{height}
use Rattle.lens_forms.specs.Forms.{FormTree, left_type, right_type}
use Rattle.lens_forms.specs.Measures.{form_height}
use Rattle.lens_forms.specs.declared.limits.TheConstants.{GREATEST_HEIGHT}

-- neither the form nor one of its types is too high
pub record IsLow (l : FormTree) : Type 0 where
  pub form : form_height l ≤ GREATEST_HEIGHT
  pub left : height (left_type l) ≤ GREATEST_HEIGHT
  pub right : height (right_type l) ≤ GREATEST_HEIGHT

abbrev pub AllLow : List FormTree → Type 0
AllLow [] = Unit {0}
AllLow (l ∷ ls) = IsLow l × AllLow ls
