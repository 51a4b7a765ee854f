-- Parts of the arms of alternatives.
use Rattle.std.proofs.Common.{◌≡◌, ℕ, zero, suc, ◌<◌, List, [], ◌∷◌, length, map, get_or, arith}
use Rattle.lens_forms.specs.Forms.{form_arms_of, arm_tree, form_tree}
use Rattle.lens_forms.specs.Measures.{form_parts, arms_parts}
use Rattle.lens_forms.specs.declared.form.Form.{Form}

-- a lens inside has fewer parts than the arms
pub parts_below : (items : List (List ℕ × List ℕ × Form)) (i : ℕ) (a : List ℕ × List ℕ × Form) → i < length items → a ≡ get_or items i a
    → form_parts (form_tree a.2) < arms_parts (form_arms_of (map arm_tree items))
parts_below [] i a h is = absurd (omega arith)
parts_below (b ∷ items) zero a h is = rw is (omega arith)
parts_below (b ∷ items) (suc i) a h is = let rest = parts_below items i a (omega arith) is in omega (arith, rest)
