-- The arms of alternatives, as the code goes through them one after the other.
use Rattle.std.proofs.Common.{◌≡◌, ℕ, ◌+◌, ◌<◌, ◌≤◌, true, false, List, [], ◌∷◌, length, map, drop, drop-cons, get_or, add-one, None, Some, refl, sym}
use Rattle.std.specs.Prelude.{bytes_eq}
use Rattle.std.proofs.lemmas.List.{drop_all}
use Rattle.lens_forms.specs.Forms.{form_arms_of, arm_tree}
use Rattle.lens_forms.specs.declared.form.Form.{Form}
use Rattle.lens_check.specs.ImageParts.{first_arm}
use Rattle.lens_forms.proofs.ArmParts.{parts_below}

-- an arm with the tag ends the search
pub arm_here : (arms : List (List ℕ × List ℕ × Form)) (t : List ℕ) (i : ℕ) (a : List ℕ × List ℕ × Form) → i < length arms → a ≡ get_or arms i a
    → bytes_eq t a.0 ≡ true → first_arm (form_arms_of (map arm_tree (drop i arms))) t ≡ Some (arm_tree a)
arm_here arms t i a h is e = rw (drop-cons arms i a h, sym is, e) refl

-- any other arm is passed over
pub arm_next : (arms : List (List ℕ × List ℕ × Form)) (t : List ℕ) (i : ℕ) (a : List ℕ × List ℕ × Form) → i < length arms → a ≡ get_or arms i a
    → bytes_eq t a.0 ≡ false → first_arm (form_arms_of (map arm_tree (drop i arms))) t ≡ first_arm (form_arms_of (map arm_tree (drop (i + 1) arms))) t
arm_next arms t i a h is e = rw (drop-cons arms i a h, sym is, e, add-one) refl

-- after the last arm there is none
pub arm_none : (arms : List (List ℕ × List ℕ × Form)) (t : List ℕ) (i : ℕ) → length arms ≤ i → first_arm (form_arms_of (map arm_tree (drop i arms))) t ≡ None
arm_none arms t i h = rw (drop_all i arms h) refl

pub ruleset arm_rules = (arm_here, arm_next, arm_none, parts_below)
