-- One field is in order, and so is none.
use Rattle.std.proofs.Common.{◌≡◌, ℕ, zero, suc, ◌+◌, ◌≤◌, List, [], ◌∷◌, length, drop, None, refl, arith}
use Rattle.file_forms.specs.Forms.{forms_view}
use Rattle.file_forms.specs.Misfits.{out_of_order}
use Rattle.file_forms.specs.declared.form.FileForm.{FileForm}

pub order-end : (fs : List (List ℕ × FileForm)) (i : ℕ) → length fs ≤ i + 1 → out_of_order (forms_view (drop i fs)) ≡ None
order-end [] zero h = refl
order-end [] (suc i) h = refl
order-end (f ∷ []) zero h = refl
order-end (f ∷ g ∷ fs) zero h = absurd (omega arith)
order-end (f ∷ fs) (suc i) h = order-end fs i (omega arith)
