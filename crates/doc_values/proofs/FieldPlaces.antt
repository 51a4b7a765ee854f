-- Looking up a field: its place counted from an earlier one, its type, and the height of that.
use Rattle.std.proofs.Common.{◌≡◌, ℕ, ◌+◌, ◌≤◌, Bool, true, false, List, Option, None, Some, option_map, ◌⊎◌, inl, inr, refl, ap, sym, subst, arith}
use Rattle.std.specs.Prelude.{cond, bytes_eq}
use Rattle.texts.proofs.Conjunction.{first, second}
use Rattle.doc_values.specs.Types.{TyTree, FieldTrees, no_fields, more_fields, height, highest, is_well_formed, are_well_formed}
use Rattle.doc_values.specs.Typing.{later_field, lookup_field, lookup_type}

pub later_field-none : (x : Option (ℕ × TyTree)) → option_map (later_field 0) x ≡ x
later_field-none None = refl
later_field-none (Some s) = let e : 0 + s.0 ≡ s.0 = omega arith in ap (λ k. Some (k, s.1)) e

pub later_field-more : (i : ℕ) (x : Option (ℕ × TyTree)) → option_map (later_field i) (option_map (later_field 1) x) ≡ option_map (later_field (i + 1)) x
later_field-more i None = refl
later_field-more i (Some s) = let e : i + (1 + s.0) ≡ i + 1 + s.0 = omega arith in ap (λ k. Some (k, s.1)) e

pub ruleset place_rules = (later_field-none, later_field-more)

-- what `lookup_field` gives, by the first field
pub lookup_field_cases : (b : Bool) (t : TyTree) (r : Option (ℕ × TyTree)) (s : ℕ × TyTree) → cond b (Some (0, t)) (option_map (later_field 1) r) ≡ Some s
    → (s ≡ (0, t)) ⊎ ((k : ℕ × TyTree) × (r ≡ Some k) × (s ≡ (1 + k.0, k.1)))
lookup_field_cases true t r s e = inl (cc)
lookup_field_cases false t None s e = cc
lookup_field_cases false t (Some k) s e = inr (k, refl, cc)

pub lookup_field-well_formed : (fs : FieldTrees) (n : List ℕ) (s : ℕ × TyTree) → are_well_formed fs ≡ true → lookup_field fs n ≡ Some s → is_well_formed s.1 ≡ true
lookup_field-well_formed no_fields n s h e = cc
lookup_field-well_formed (more_fields m t fs) n s h e =
    elim (lookup_field_cases (bytes_eq m n) t (lookup_field fs n) s e) [
      | inl is ↦ subst (λ (x : ℕ × TyTree). is_well_formed x.1 ≡ true) (sym is) (first _ _ h)
      | inr k ↦ subst (λ (x : ℕ × TyTree). is_well_formed x.1 ≡ true) (sym k.2) (lookup_field-well_formed fs n k.0 (second _ _ h) k.1)
    ]

pub lookup_field-height : (fs : FieldTrees) (n : List ℕ) (s : ℕ × TyTree) → lookup_field fs n ≡ Some s → height s.1 ≤ highest fs
lookup_field-height no_fields n s e = cc
lookup_field-height (more_fields m t fs) n s e =
    elim (lookup_field_cases (bytes_eq m n) t (lookup_field fs n) s e) [
      | inl is ↦ let same = ap (λ (x : ℕ × TyTree). height x.1) is in omega (arith, same)
      | inr k ↦
          let same = ap (λ (x : ℕ × TyTree). height x.1) k.2 in
          let below = lookup_field-height fs n k.0 k.1 in
          omega (arith, same, below)
    ]

-- the type at a tag is that of its place
type_place : (o : Option (ℕ × TyTree)) (t : TyTree) → option_map (λ (s : ℕ × TyTree). s.1) o ≡ Some t → (s : ℕ × TyTree) × (o ≡ Some s) × (s.1 ≡ t)
type_place None t e = cc
type_place (Some s) t e = (s, refl, cc)

pub lookup_type_place : (fs : FieldTrees) (n : List ℕ) (t : TyTree) → lookup_type fs n ≡ Some t → (s : ℕ × TyTree) × (lookup_field fs n ≡ Some s) × (s.1 ≡ t)
lookup_type_place fs n t e = type_place (lookup_field fs n) t e

pub lookup_type-well_formed : (fs : FieldTrees) (n : List ℕ) (t : TyTree) → are_well_formed fs ≡ true → lookup_type fs n ≡ Some t → is_well_formed t ≡ true
lookup_type-well_formed fs n t h e =
    let s = type_place (lookup_field fs n) t e in
    subst (λ x. is_well_formed x ≡ true) s.2 (lookup_field-well_formed fs n s.0 h s.1)
