-- What every form that was checked keeps.
use Rattle.std.specs.Prelude.{◌≡◌, IsTrue, Bool, ◌&&◌, nat_le}
use Rattle.doc_values.specs.Types.{TyTree, height, is_well_formed}
use Rattle.lens_forms.specs.Forms.{FormTree, left_type, right_type}
use Rattle.lens_forms.specs.Measures.{form_parts, form_height}
use Rattle.lens_forms.specs.Typing.{is_typed}
use Rattle.lens_forms.specs.declared.limits.TheConstants.{GREATEST_HEIGHT, MOST_PARTS}

-- it is typed, it has at most so many parts, and it and the types of its sides are at most so high
abbrev pub is_sound : FormTree → Bool
is_sound f =
    is_typed f && (nat_le (form_parts f) MOST_PARTS && (nat_le (form_height f) GREATEST_HEIGHT
    && (nat_le (height (left_type f)) GREATEST_HEIGHT && nat_le (height (right_type f)) GREATEST_HEIGHT)))

-- a sound form with its two types, which are well formed
pub record IsSoundWith (form : FormTree) (left : TyTree) (right : TyTree) : Type 0 where
  pub left_is : left ≡ left_type form
  pub right_is : right ≡ right_type form
  pub left_well_formed : IsTrue (is_well_formed left)
  pub right_well_formed : IsTrue (is_well_formed right)
  pub sound : IsTrue (is_sound form)
