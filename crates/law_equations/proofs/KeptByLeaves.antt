-- The lenses that keep nothing keep the equations.
use Rattle.std.proofs.Common.{◌≡◌, refl, ap, Option, None, Some, List, ℕ}
use Rattle.texts.specs.declared.side.Side.{Side}
use Rattle.edit_module.specs.Words.{PrimitiveTree, set, add, splice, at, stay, switch, modify, shape, WordTree, no_primitives}
use Rattle.edit_module.specs.Normal.{merge}
use Rattle.doc_values.specs.Types.{TyTree}
use Rattle.lens_forms.specs.Forms.{form_id, form_bij, form_disc}
use Rattle.lens_core.specs.Complements.{CompTree, nil}
use Rattle.lens_core.specs.Emitted.{one}
use Rattle.lens_core.specs.Translation.{Translated, at_nil, set_partner}
use Rattle.law_equations.specs.Alike.{KeepsEquations}
use Rattle.law_equations.proofs.Glue.{normalized, normalized_one}
use Rattle.law_equations.proofs.Normals.{merge-cases}
use Rattle.law_equations.proofs.Alikes.{in_normal_form, in_order, owed-form, normalized-one, normalized-two}

-- ---- at the complement that keeps nothing

nil-one : (c : CompTree) (u w : WordTree) → normalized u ≡ normalized w → in_normal_form (at_nil c (Some u)) ≡ in_normal_form (at_nil c (Some w))
nil-one nil u w e = ap (λ z. Some (z, nil)) e
nil-one _ u w e = refl

nil-two : (c : CompTree) (p q r : PrimitiveTree) → merge p q ≡ Some r → in_normal_form (at_nil c (Some (one r))) ≡ in_normal_form (in_order (at_nil c (Some (one p))) (λ d. at_nil d (Some (one q))))
nil-two nil p q r e = ap (λ z. Some (z, nil)) (normalized-two p q r e)
nil-two _ p q r e = refl

pub identity_keeps : (t : TyTree) → KeepsEquations (form_id t)
identity_keeps t = owed-form (form_id t) (λ side. record {
  ones = λ c p. nil-one c (one (normalized_one p)) (one p) (normalized-one p);
  pairs = λ c p q r e. nil-two c p q r e;
})

disc-two : (c : CompTree) → in_normal_form (at_nil c (Some no_primitives)) ≡ in_normal_form (in_order (at_nil c (Some no_primitives)) (λ d. at_nil d (Some no_primitives)))
disc-two nil = refl
disc-two _ = refl

pub disconnection_keeps : (t u : TyTree) → KeepsEquations (form_disc t u)
disconnection_keeps t u = owed-form (form_disc t u) (λ side. record {
  ones = λ c p. refl;
  pairs = λ c p q r e. disc-two c;
})

bij-one : (ps : List (List ℕ × List ℕ)) (side : Side) (p : PrimitiveTree) → set_partner side ps (normalized_one p) ≡ set_partner side ps p
bij-one ps side (set a) = refl
bij-one ps side (add n) = refl
bij-one ps side (splice i k s) = refl
bij-one ps side (at f u) = refl
bij-one ps side (stay f u) = refl
bij-one ps side (switch s f u) = refl
bij-one ps side (modify f u) = refl
bij-one ps side (shape e) = refl

bij-two : (c : CompTree) (k : CompTree → Option Translated) → in_normal_form (at_nil c None) ≡ in_normal_form (in_order (at_nil c None) k)
bij-two nil k = refl
bij-two _ k = refl

pub bijection_keeps : (ps : List (List ℕ × List ℕ)) (n : List ℕ) → KeepsEquations (form_bij ps n)
bijection_keeps ps n = owed-form (form_bij ps n) (λ side. record {
  ones = λ c p. ap (λ z. in_normal_form (at_nil c z)) (bij-one ps side p);
  pairs = λ c p q r e. merge-cases (λ p q r. in_normal_form (at_nil c (set_partner side ps r)) ≡ in_normal_form (in_order (at_nil c (set_partner side ps p)) (λ d. at_nil d (set_partner side ps q))))
      (λ f u v. bij-two c (λ d. at_nil d None)) (λ f u v. bij-two c (λ d. at_nil d None)) (λ f u v. bij-two c (λ d. at_nil d None)) (λ a f u v. bij-two c (λ d. at_nil d None)) p q r e;
})
