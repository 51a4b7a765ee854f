-- Fields put at their places rise by bytes where their names are distinct, and keep what holds of each.
use Rattle.std.proofs.Common.{◌≡◌, ℕ, Bool, true, false, ◌&&◌, ◌||◌, List, ◌∷◌, refl, ap, ◌∙◌}
use Rattle.std.specs.Prelude.{bytes_eq, not, if◌then◌else◌}
use Rattle.texts.specs.Keys.{is_before, all_after, is_rising, has_name}
use Rattle.doc_values.specs.Types.{TyTree, FieldTrees, no_fields, more_fields, names_of, are_distinct, is_well_formed, are_well_formed}
use Rattle.texts.proofs.Conjunction.{both as both_true, first as first_and, second as second_and}
use Rattle.texts.proofs.KeyOrder.{before-total}
use Rattle.lens_forms.specs.Forms.{insert_field, sorted}
use Rattle.std.proofs.lemmas.Bool.{not-true}

pub not_first : (x y : Bool) → (x || y) ≡ false → (x ≡ false) × (y ≡ false)
not_first true y h = cc
not_first false y h = (refl, h)

-- ---- rising

-- a name before the first of the fields, and before the one put in, is before the first of all
after-insert : (k n : List ℕ) (t : TyTree) (fs : FieldTrees) → is_before k n ≡ true → all_after k (names_of fs) ≡ true
    → all_after k (names_of (insert_field n t fs)) ≡ true
after-insert k n t no_fields h r = h
after-insert k n t (more_fields m u fs) h r =
    elim (is_before m n) as (λ b. all_after k (names_of (if b then more_fields m u (insert_field n t fs) else more_fields n t (more_fields m u fs))) ≡ true)
    [ true ↦ r | false ↦ h ]

rising-step : (b : Bool) (n m : List ℕ) (t u : TyTree) (fs : FieldTrees) → is_before m n ≡ b
    → all_after m (names_of fs) ≡ true → is_rising (names_of fs) ≡ true → bytes_eq n m ≡ false
    → is_rising (names_of (insert_field n t fs)) ≡ true
    → is_rising (names_of (if b then more_fields m u (insert_field n t fs) else more_fields n t (more_fields m u fs))) ≡ true
rising-step true n m t u fs e first rest other put = both_true _ _ (after-insert m n t fs e first) put
rising-step false n m t u fs e first rest other put =
    both_true _ _ (before-total n m e other) (both_true _ _ first rest)

rising-insert : (n : List ℕ) (t : TyTree) (fs : FieldTrees) → is_rising (names_of fs) ≡ true → has_name n (names_of fs) ≡ false
    → is_rising (names_of (insert_field n t fs)) ≡ true
rising-insert n t no_fields h k = refl
rising-insert n t (more_fields m u fs) h k =
    let first = first_and (all_after m (names_of fs)) (is_rising (names_of fs)) h in
    let rest = second_and (all_after m (names_of fs)) (is_rising (names_of fs)) h in
    let new = not_first (bytes_eq n m) (has_name n (names_of fs)) k in
    rising-step (is_before m n) n m t u fs refl first rest new.0 (rising-insert n t fs rest new.1)

-- ---- the names are the same

or_swap : (x y z : Bool) → (x || (y || z)) ≡ (y || (x || z))
or_swap true true z = refl
or_swap true false z = refl
or_swap false y z = refl

has_name-insert : (k n : List ℕ) (t : TyTree) (fs : FieldTrees) → has_name k (names_of (insert_field n t fs)) ≡ (bytes_eq k n || has_name k (names_of fs))
has_name-insert k n t no_fields = refl
has_name-insert k n t (more_fields m u fs) =
    elim (is_before m n) as (λ b. has_name k (names_of (if b then more_fields m u (insert_field n t fs) else more_fields n t (more_fields m u fs))) ≡ (bytes_eq k n || (bytes_eq k m || has_name k (names_of fs))))
    [ true ↦ ap (λ b. bytes_eq k m || b) (has_name-insert k n t fs) ∙ or_swap (bytes_eq k m) (bytes_eq k n) (has_name k (names_of fs)) | false ↦ refl ]

pub inserted : (n : List ℕ) (t : TyTree) (fs : FieldTrees) (names : List (List ℕ)) → ((k : List ℕ) → has_name k (names_of fs) ≡ has_name k names)
    → (not (has_name n names) && are_distinct names) ≡ true → is_rising (names_of fs) ≡ true
    → is_rising (names_of (insert_field n t fs)) ≡ true
inserted n t fs names same h r =
    rising-insert n t fs r (same n ∙ not-true (has_name n names) (first_and (not (has_name n names)) (are_distinct names) h))

pub inserted_names : (n : List ℕ) (t : TyTree) (fs : FieldTrees) (names : List (List ℕ)) → ((k : List ℕ) → has_name k (names_of fs) ≡ has_name k names)
    → (k : List ℕ) → has_name k (names_of (insert_field n t fs)) ≡ has_name k (n ∷ names)
inserted_names n t fs names same k = has_name-insert k n t fs ∙ ap (λ b. bytes_eq k n || b) (same k)

pub sorted-names : (fs : FieldTrees) (k : List ℕ) → has_name k (names_of (sorted fs)) ≡ has_name k (names_of fs)
sorted-names no_fields k = refl
sorted-names (more_fields n t fs) k = inserted_names n t (sorted fs) (names_of fs) (sorted-names fs) k

pub sorted-rising : (fs : FieldTrees) → are_distinct (names_of fs) ≡ true → is_rising (names_of (sorted fs)) ≡ true
sorted-rising no_fields h = refl
sorted-rising (more_fields n t fs) h =
    inserted n t (sorted fs) (names_of fs) (sorted-names fs) h
    (sorted-rising fs (second_and (not (has_name n (names_of fs))) (are_distinct (names_of fs)) h))

-- ---- well formed

pub well_formed-insert : (n : List ℕ) (t : TyTree) (fs : FieldTrees) → is_well_formed t ≡ true → are_well_formed fs ≡ true
    → are_well_formed (insert_field n t fs) ≡ true
well_formed-insert n t no_fields h k = both_true _ _ h refl
well_formed-insert n t (more_fields m u fs) h k =
    let here = first_and (is_well_formed u) (are_well_formed fs) k in
    let rest = second_and (is_well_formed u) (are_well_formed fs) k in
    elim (is_before m n) as (λ b. are_well_formed (if b then more_fields m u (insert_field n t fs) else more_fields n t (more_fields m u fs)) ≡ true)
    [ true ↦ both_true _ _ here (well_formed-insert n t fs h rest) | false ↦ both_true _ _ h k ]

pub sorted-well_formed : (fs : FieldTrees) → are_well_formed fs ≡ true → are_well_formed (sorted fs) ≡ true
sorted-well_formed no_fields h = refl
sorted-well_formed (more_fields n t fs) h =
    well_formed-insert n t (sorted fs) (first_and (is_well_formed t) (are_well_formed fs) h)
    (sorted-well_formed fs (second_and (is_well_formed t) (are_well_formed fs) h))
