-- The lens of a form that was compiled is that of the form.
use Rattle.std.proofs.Common.{◌≡◌, refl, subst}
use Rattle.lens_core.specs.Complements.{missing}
use Rattle.lens_core.specs.Consistency.{IsConsistent}
use Rattle.lens_core.specs.LensOf.{IsLensOf}
use Rattle.lens_core.specs.Translation.{translate}
use Rattle.lens_forms.specs.Forms.{FormTree, left_type, right_type}

pub own_lens : (l : FormTree) → IsLensOf (left_type l) (right_type l) (missing l) (IsConsistent l) (translate l) l
own_lens l = record { left_is = refl; right_is = refl; starts = refl; relates = λ x c y. (λ h. h, λ h. h); translates = refl }

pub is_lens_of : (f l : FormTree) → f ≡ l → IsLensOf (left_type f) (right_type f) (missing f) (IsConsistent f) (translate f) l
is_lens_of f l same = subst (IsLensOf (left_type f) (right_type f) (missing f) (IsConsistent f) (translate f)) same (own_lens f)
