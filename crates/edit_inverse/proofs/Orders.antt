-- The order that takes an order back, as the code makes it.
use Rattle.std.proofs.Common.{◌≡◌, ℕ, zero, suc, ◌+◌, ◌<◌, ◌≤◌, Bool, true, false, not, ◌&&◌, ◌||◌, List, [], ◌∷◌, length, get_or, set, map, refl, sym, ap, subst, ◌∙◌, arith}
use Rattle.std.specs.Prelude.{nat_lt, nat_eq}
use Rattle.std.specs.List.{range_with_len}
use Rattle.std.proofs.lemmas.Bool.Decides.{nat_tests}
use Rattle.std.proofs.lemmas.List.{get_or-set_other, get_or-set_same, length-set}
use Rattle.texts.proofs.Conjunction.{first, second}
use Rattle.hold_shapes.specs.Plans.{has_number, is_each_new}
use Rattle.edit_inverse.specs.Inverse.{place_among, inverse_order}
use Rattle.edit_inverse.proofs.Items.{all-among}

-- ---- numbers that are each new

number-here : (k m : ℕ) (ms : List ℕ) → k ≡ m → has_number k (m ∷ ms) ≡ true
number-here k m ms e = let z : nat_eq k m ≡ true = grind (arith, nat_tests) in rw z refl

number-more : (b : Bool) (k : ℕ) (ms : List ℕ) → has_number k ms ≡ true → (b || has_number k ms) ≡ true
number-more true k ms h = refl
number-more false k ms h = h

new-first : (b : Bool) (r : Bool) → (not b && r) ≡ true → b ≡ false
new-first true r h = cc
new-first false r h = refl

seen : (n : ℕ) (before f : List ℕ) (k j : ℕ) → is_each_new n before f ≡ true → has_number k before ≡ true → j < length f → get_or f j 0 ≡ k → ⊥
seen n before [] k j h b lt e = absurd (omega arith)
seen n before (m ∷ ms) k zero h b lt e =
    let more = second (nat_lt m n) (not (has_number m before) && is_each_new n (m ∷ before) ms) h in
    let no : has_number m before ≡ false = new-first (has_number m before) (is_each_new n (m ∷ before) ms) more in
    let P : ℕ → Type 0 = λ x. has_number x before ≡ true in
    let yes : has_number m before ≡ true = subst P (sym e) b in
    let bad : false ≡ true = sym no ∙ yes in cc
seen n before (m ∷ ms) k (suc j) h b lt e =
    let more = second (nat_lt m n) (not (has_number m before) && is_each_new n (m ∷ before) ms) h in
    let rest = second (not (has_number m before)) (is_each_new n (m ∷ before) ms) more in
    seen n (m ∷ before) ms k j rest (number-more (nat_eq k m) k before b) (omega arith) e

apart : (n : ℕ) (before f : List ℕ) (i j : ℕ) → is_each_new n before f ≡ true → i < j → j < length f → get_or f i 0 ≡ get_or f j 0 → ⊥
apart n before [] i j h lt within e = absurd (omega arith)
apart n before (m ∷ ms) i zero h lt within e = absurd (omega arith)
apart n before (m ∷ ms) zero (suc j) h lt within e =
    let more = second (nat_lt m n) (not (has_number m before) && is_each_new n (m ∷ before) ms) h in
    let rest = second (not (has_number m before)) (is_each_new n (m ∷ before) ms) more in
    seen n (m ∷ before) ms m j rest (number-here m m before refl) (omega arith) (sym e)
apart n before (m ∷ ms) (suc i) (suc j) h lt within e =
    let more = second (nat_lt m n) (not (has_number m before) && is_each_new n (m ∷ before) ms) h in
    let rest = second (not (has_number m before)) (is_each_new n (m ∷ before) ms) more in
    apart n (m ∷ before) ms i j rest (omega arith) (omega arith) e

pub below : (n : ℕ) (before f : List ℕ) (i : ℕ) → is_each_new n before f ≡ true → i < length f → get_or f i 0 < n
below n before [] i h lt = absurd (omega arith)
below n before (m ∷ ms) zero h lt =
    let z = first (nat_lt m n) (not (has_number m before) && is_each_new n (m ∷ before) ms) h in grind (arith, nat_tests)
below n before (m ∷ ms) (suc i) h lt =
    let more = second (nat_lt m n) (not (has_number m before) && is_each_new n (m ∷ before) ms) h in
    let rest = second (not (has_number m before)) (is_each_new n (m ∷ before) ms) more in
    below n (m ∷ before) ms i rest (omega arith)

-- ---- the loop

-- the numbers up to j have their places
abbrev pub Placed : List ℕ → List ℕ → ℕ → Type 0
Placed f back j = (length back ≡ length f) × ((i : ℕ) → i < j → get_or back (get_or f i 0) 0 ≡ i)

placed-step : (f back new : List ℕ) (j i : ℕ) (t : Bool) → nat_eq i j ≡ t → is_each_new (length f) [] f ≡ true → j < length f → Placed f back j → new ≡ set back (get_or f j 0) j → i < j + 1
    → get_or new (get_or f i 0) 0 ≡ i
placed-step f back new j i true e h lt p made less =
    let same : i ≡ j = grind (arith, nat_tests) in
    let room : get_or f j 0 < length back = let b = below (length f) [] f j h lt in let l = p.0 in omega arith in
    let here : get_or (set back (get_or f j 0) j) (get_or f j 0) 0 ≡ j = get_or-set_same back (get_or f j 0) j 0 room in
    let P : ℕ → Type 0 = λ x. get_or (set back (get_or f j 0) j) (get_or f x 0) 0 ≡ x in
    ap (λ (l : List ℕ). get_or l (get_or f i 0) 0) made ∙ subst P (sym same) here
placed-step f back new j i false e h lt p made less =
    let before : i < j = grind (arith, nat_tests) in
    ap (λ (l : List ℕ). get_or l (get_or f i 0) 0) made
    ∙ (get_or-set_other back (get_or f j 0) (get_or f i 0) j 0 (λ k. apart (length f) [] f i j h before lt k) ∙ p.1 i before)

pub placed-next : (f back new : List ℕ) (j : ℕ) → is_each_new (length f) [] f ≡ true → j < length f → Placed f back j → new ≡ set back (get_or f j 0) j → Placed f new (j + 1)
placed-next f back new j h lt p made =
    (ap length made ∙ (length-set back (get_or f j 0) j ∙ p.0), λ i less. placed-step f back new j i (nat_eq i j) refl h lt p made less)

listed : (back : List ℕ) (g : ℕ → ℕ) (a m : ℕ) → length back ≡ m → ((i : ℕ) → i < m → get_or back i 0 ≡ g (a + i)) → back ≡ map g (range_with_len a m)
listed [] g a zero e h = refl
listed [] g a (suc m) e h = absurd (omega arith)
listed (x ∷ xs) g a zero e h = absurd (omega arith)
listed (x ∷ xs) g a (suc m) e h =
    let z : a + 0 ≡ a = omega arith in
    let head : x ≡ g a = h 0 (omega arith) ∙ ap g z in
    let rest = listed xs g (a + 1) m (omega arith) (λ i lt. let n : a + suc i ≡ a + 1 + i = omega arith in h (suc i) (omega arith) ∙ ap g n) in
    ap (λ (y : ℕ). y ∷ xs) head ∙ ap (λ (ys : List ℕ). g a ∷ ys) rest

pub placed-all : (f back : List ℕ) (j : ℕ) → is_each_new (length f) [] f ≡ true → Placed f back j → length f ≤ j → back ≡ inverse_order f
placed-all f back j h p all =
    listed back (place_among f) 0 (length f) p.0
    (λ i lt.
    let w = all-among f h i lt in
    let k = place_among f i in
    let inside : k < length f = w.0 in
    let z : 0 + i ≡ i = omega arith in
    let P : ℕ → Type 0 = λ x. get_or back x 0 ≡ k in
    subst P w.1 (p.1 k (omega arith)) ∙ ap (place_among f) (sym z))
