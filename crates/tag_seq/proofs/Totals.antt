-- Sizes and counts of lists of tags.
use Rattle.std.proofs.Common.{◌≡◌, ℕ, zero, suc, ◌+◌, ◌-◌, ◌<◌, ◌≤◌, List, [], ◌∷◌, ◌++◌, length, refl, sym, ◌∙◌, true, false, arith, cond, inl, inr, length-append}
use Rattle.std.proofs.lemmas.Bool.{cases_eq, cases_Bool, eq-eqb, ne_eqb, ltb-true, lt-ltb, and_parts, and_from}
use Rattle.std.specs.Prelude.{nat_eq, nat_lt, replicate, ◌&&◌, ◌↔◌, Bool}
use Rattle.tag_seq.specs.Tags.{count, one_if_same, are_below}
use Rattle.tag_seq.specs.Numbers.{number}
use Rattle.tag_seq.specs.Totals.{AreTotals}

pub count-append : (t : ℕ) (xs ys : List ℕ) → count t (xs ++ ys) ≡ count t xs + count t ys
count-append t [] ys = omega arith
count-append t (x ∷ xs) ys = omega (arith, count-append t xs ys)

pub one-le : (x t : ℕ) → one_if_same x t ≤ 1
one-le x t = elim (nat_eq x t) as (λ c. cond c 1 0 ≤ 1) [ true ↦ omega arith | false ↦ omega arith ]

pub count-le-length : (t : ℕ) (xs : List ℕ) → count t xs ≤ length xs
count-le-length t [] = omega arith
count-le-length t (x ∷ xs) = omega (arith, one-le x t, count-le-length t xs)

pub count-replicate : (t x n : ℕ) → count t (replicate n x) ≡ (cond (nat_eq x t) n 0)
count-replicate t x zero = elim (cases_eq x t) [ inl e ↦ rw (eq-eqb x t e) refl | inr e ↦ rw (ne_eqb x t e) refl ]
count-replicate t x (suc n) =
    elim (cases_eq x t) [
      | inl e ↦ let h = rw (eq-eqb x t e) at (count-replicate t x n) in rw (eq-eqb x t e) (omega arith)
      | inr e ↦ let h = rw (ne_eqb x t e) at (count-replicate t x n) in rw (ne_eqb x t e) (omega arith)
    ]

-- no number of a total is above its size
pub totals_within : (n : ℕ) (c : List (ℕ × ℕ)) (xs : List ℕ) → AreTotals n c xs → (t : ℕ) → number t c ≤ n
totals_within n c xs a t = omega (arith, a.all, a.each t, count-le-length t xs)

-- the total of two parts with a tag between them
pub totals_around : (n m s x : ℕ) (c e r : List (ℕ × ℕ)) (xs ys : List ℕ) → AreTotals n c xs → AreTotals m e ys → s ≡ n + 1 + m → ((t : ℕ) → number t r ≡ (number t c + one_if_same x t) + number t e) → AreTotals s r (xs ++ x ∷ ys)
totals_around n m s x c e r xs ys a b h f = record {
  all = omega (arith, a.all, b.all, length-append xs (x ∷ ys));
  each = λ t. omega (arith, f t, a.each t, b.each t, count-append t xs (x ∷ ys));
}

-- the total of the part behind a part and a tag
pub totals_behind : (n m s x : ℕ) (c e r : List (ℕ × ℕ)) (xs ys : List ℕ) → AreTotals n c (xs ++ x ∷ ys) → AreTotals m e xs → s ≡ n - m - 1 → ((t : ℕ) → (number t r + one_if_same x t) + number t e ≡ number t c) → AreTotals s r ys
totals_behind n m s x c e r xs ys a b h f = record {
  all = omega (arith, a.all, b.all, length-append xs (x ∷ ys));
  each = λ t. omega (arith, f t, a.each t, b.each t, count-append t xs (x ∷ ys));
}

-- what is in front of a tag is among the whole
pub front_within : (n m x : ℕ) (c e : List (ℕ × ℕ)) (xs ys : List ℕ) → AreTotals n c (xs ++ x ∷ ys) → AreTotals m e xs → (m < n) × ((t : ℕ) → number t e + one_if_same x t ≤ number t c)
front_within n m x c e xs ys a b = (
  omega (arith, a.all, b.all, length-append xs (x ∷ ys)),
  λ t. omega (arith, a.each t, b.each t, count-append t xs (x ∷ ys)),
)

-- tags that occur are below a bound if and only if all tags are
below_true : (b : ℕ) (xs : List ℕ) → are_below b xs ≡ true → (t : ℕ) → 0 < count t xs → t < b
below_true b [] e t h = absurd (omega arith)
below_true b (x ∷ xs) e t h =
    let both = and_parts (nat_lt x b) (are_below b xs) e in
    elim (cases_eq x t) [
      | inl f ↦ omega (arith, ltb-true x b both.0)
      | inr f ↦ below_true b xs both.1 t (omega (arith, rw (ne_eqb x t f) at h))
    ]

below_from : (b : ℕ) (xs : List ℕ) → ((t : ℕ) → 0 < count t xs → t < b) → are_below b xs ≡ true
below_from b [] h = refl
below_from b (x ∷ xs) h =
    and_from (nat_lt x b) (are_below b xs)
    (lt-ltb x b (h x (rw (eq-eqb x x refl) (omega arith))))
    (below_from b xs (λ t k. h t (omega arith)))

-- a test of the tags that have a number is the test of all tags
pub below_counts : (b : ℕ) (r : Bool) (c : List (ℕ × ℕ)) (xs : List ℕ) → ((r ≡ true) ↔ ((t : ℕ) → 0 < number t c → t < b)) → ((t : ℕ) → number t c ≡ count t xs) → are_below b xs ≡ r
below_counts b true c xs e f = below_from b xs (λ t h. e.0 refl t (rw (f t) h))
below_counts b false c xs e f =
    elim (cases_Bool (are_below b xs)) [
      | inl y ↦ y ∙ sym (e.1 (λ t h. below_true b xs y t (rw (f t) at h)))
      | inr n ↦ n
    ]

pub below-append : (b : ℕ) (xs ys : List ℕ) → are_below b (xs ++ ys) ≡ (are_below b xs && are_below b ys)
below-append b [] ys = refl
below-append b (x ∷ xs) ys = elim (nat_lt x b) as (λ c. (c && are_below b (xs ++ ys)) ≡ ((c && are_below b xs) && are_below b ys)) [ true ↦ below-append b xs ys | false ↦ refl ]
