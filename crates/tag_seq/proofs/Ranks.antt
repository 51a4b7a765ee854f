-- Rank and place in lists with a tag between two parts, and their laws.
use Rattle.std.proofs.Common.{◌≡◌, ℕ, zero, suc, ◌+◌, ◌-◌, ◌<◌, ◌≤◌, List, [], ◌∷◌, ◌++◌, length, take, refl, ap, sym, ◌∙◌, arith, inl, inr, Option, Some, None}
use Rattle.std.proofs.lemmas.Bool.{cases_eq, cases_lt, eq-eqb, ne_eqb, true≢false}
use Rattle.std.proofs.lemmas.List.{append-nil}
use Rattle.std.specs.Prelude.{slice_get, IsSome, is_some}
use Rattle.tag_seq.specs.Tags.{count, one_if_same, rank, place, further}
use Rattle.tag_seq.proofs.Totals.{count-append, count-le-length}
use Rattle.tag_seq.proofs.Sides.{take_left, take_right}

pub rank_left : (t : ℕ) (xs ys : List ℕ) (n i : ℕ) → n ≡ length xs → i ≤ n → rank t i (xs ++ ys) ≡ rank t i xs
rank_left t xs ys n i e h = ap (count t) (take_left xs ys n i e h)

pub rank_right : (t : ℕ) (xs ys : List ℕ) (x n i : ℕ) → n ≡ length xs → n < i → rank t i (xs ++ x ∷ ys) ≡ count t xs + one_if_same x t + rank t (i - n - 1) ys
rank_right t xs ys x n i e h = ap (count t) (take_right xs ys x n i e h) ∙ (count-append t xs (x ∷ take (i - n - 1) ys) ∙ omega arith)

further-none : (o : Option ℕ) → o ≡ further 0 o
further-none None = refl
further-none (Some p) = ap Some (omega arith)

further_twice : (a b n : ℕ) (o : Option ℕ) → n ≡ a + b → further a (further b o) ≡ further n o
further_twice a b n None e = refl
further_twice a b n (Some p) e = ap Some (omega arith)

further_some : (n p : ℕ) (o : Option ℕ) → further n o ≡ Some p → (q : ℕ) × ((o ≡ Some q) × (p ≡ n + q))
further_some n p None e = cc
further_some n p (Some q) e = (q, (refl, let same : n + q ≡ p = cc in omega arith))

-- the step of a place at a first tag
place_first : (t x : ℕ) (xs : List ℕ) → x ≡ t → place t 0 (x ∷ xs) ≡ Some 0
place_first t x xs e = rw (eq-eqb x t e) refl

place_later : (t x q r : ℕ) (xs : List ℕ) → x ≡ t → q ≡ r + 1 → place t q (x ∷ xs) ≡ further 1 (place t r xs)
place_later t x q r xs e f = rw (eq-eqb x t e, ne_eqb q 0 (omega arith)) (ap (λ k. further 1 (place t k xs)) (omega arith))

place_other : (t x q : ℕ) (xs : List ℕ) → (x ≡ t → ⊥) → place t q (x ∷ xs) ≡ further 1 (place t q xs)
place_other t x q xs e = rw (ne_eqb x t e) refl

one_same : (x t : ℕ) → x ≡ t → one_if_same x t ≡ 1
one_same x t e = rw (eq-eqb x t e) refl

one_other : (x t : ℕ) → (x ≡ t → ⊥) → one_if_same x t ≡ 0
one_other x t e = rw (ne_eqb x t e) refl

pub place_left : (t : ℕ) (xs ys : List ℕ) (k : ℕ) → k < count t xs → place t k (xs ++ ys) ≡ place t k xs
place_left t [] ys k h = absurd (omega arith)
place_left t (x ∷ xs) ys k h =
    elim (cases_eq x t) [
      | inl e ↦ elim (cases_eq k 0) [
        | inl z ↦ rw z (place_first t x (xs ++ ys) e ∙ sym (place_first t x xs e))
        | inr z ↦ place_later t x k (k - 1) (xs ++ ys) e (omega arith) ∙ (ap (further 1) (place_left t xs ys (k - 1) (omega (arith, one_same x t e))) ∙ sym (place_later t x k (k - 1) xs e (omega arith)))
      ]
      | inr e ↦ place_other t x k (xs ++ ys) e ∙ (ap (further 1) (place_left t xs ys k (omega (arith, one_other x t e))) ∙ sym (place_other t x k xs e))
    ]

place_behind : (t : ℕ) (xs ys : List ℕ) (k r : ℕ) → k ≡ count t xs + r → place t k (xs ++ ys) ≡ further (length xs) (place t r ys)
place_behind t [] ys k r h = ap (λ q. place t q ys) (omega arith) ∙ further-none (place t r ys)
place_behind t (x ∷ xs) ys k r h =
    elim (cases_eq x t) [
      | inl e ↦ place_later t x k (k - 1) (xs ++ ys) e (omega (arith, one_same x t e)) ∙ (ap (further 1) (place_behind t xs ys (k - 1) r (omega (arith, one_same x t e))) ∙ further_twice 1 (length xs) (length (x ∷ xs)) (place t r ys) (omega arith))
      | inr e ↦ place_other t x k (xs ++ ys) e ∙ (ap (further 1) (place_behind t xs ys k r (omega (arith, one_other x t e))) ∙ further_twice 1 (length xs) (length (x ∷ xs)) (place t r ys) (omega arith))
    ]

pub place_here : (t : ℕ) (xs ys : List ℕ) (x n k : ℕ) → n ≡ length xs → count t xs ≤ k → k - count t xs < one_if_same x t → place t k (xs ++ x ∷ ys) ≡ Some n
place_here t xs ys x n k e h l =
    elim (cases_eq x t) [
      | inl f ↦ place_behind t xs (x ∷ ys) k 0 (omega (arith, one_same x t f)) ∙ (ap (further (length xs)) (place_first t x ys f) ∙ ap Some (omega arith))
      | inr f ↦ absurd (omega (arith, one_other x t f))
    ]

pub place_right : (t : ℕ) (xs ys : List ℕ) (x n k : ℕ) → n ≡ length xs → count t xs ≤ k → one_if_same x t ≤ k - count t xs → place t k (xs ++ x ∷ ys) ≡ further (n + 1) (place t (k - count t xs - one_if_same x t) ys)
place_right t xs ys x n k e h l =
    elim (cases_eq x t) [
      | inl f ↦ place_behind t xs (x ∷ ys) k (k - count t xs) (omega arith) ∙ (ap (further (length xs)) (place_later t x (k - count t xs) (k - count t xs - one_if_same x t) ys f (omega (arith, one_same x t f))) ∙ further_twice (length xs) 1 (n + 1) (place t (k - count t xs - one_if_same x t) ys) (omega arith))
      | inr f ↦ place_behind t xs (x ∷ ys) k (k - count t xs) (omega arith) ∙ (ap (further (length xs)) (place_other t x (k - count t xs) ys f ∙ ap (λ q. further 1 (place t q ys)) (omega (arith, one_other x t f))) ∙ further_twice (length xs) 1 (n + 1) (place t (k - count t xs - one_if_same x t) ys) (omega arith))
    ]

pub ruleset rank_rules = (rank_left, rank_right, count-le-length)

pub ruleset place_rules = (place_left, place_here, place_right)

-- a place is that of a tag of the list
pub place_within : (t k p : ℕ) (xs : List ℕ) → place t k xs ≡ Some p → p < length xs
place_within t k p [] e = cc
place_within t k p (x ∷ xs) e =
    elim (cases_eq x t) [
      | inl f ↦ elim (cases_eq k 0) [
        | inl z ↦ let same : Some 0 ≡ Some p = sym (place_first t x xs f) ∙ (ap (λ q. place t q (x ∷ xs)) (sym z) ∙ e) in let zero_is : 0 ≡ p = cc in omega arith
        | inr z ↦ let d = further_some 1 p (place t (k - 1) xs) (sym (place_later t x k (k - 1) xs f (omega arith)) ∙ e) in omega (arith, place_within t (k - 1) d.0 xs d.1.0, d.1.1)
      ]
      | inr f ↦ let d = further_some 1 p (place t k xs) (sym (place_other t x k xs f) ∙ e) in omega (arith, place_within t k d.0 xs d.1.0, d.1.1)
    ]

pub place-after-rank : (xs : List ℕ) (t p : ℕ) → slice_get xs p ≡ Some t → place t (rank t p xs) xs ≡ Some p
place-after-rank [] t p e = cc
place-after-rank (x ∷ xs) t zero e = let same : x ≡ t = cc in place_first t x xs same
place-after-rank (x ∷ xs) t (suc p) e =
    elim (cases_eq x t) [
      | inl f ↦ place_later t x (rank t (suc p) (x ∷ xs)) (rank t p xs) xs f (omega (arith, one_same x t f)) ∙ (ap (further 1) (place-after-rank xs t p e) ∙ ap Some (omega arith))
      | inr f ↦ place_other t x (rank t (suc p) (x ∷ xs)) xs f ∙ (ap (λ k. further 1 (place t k xs)) (omega (arith, one_other x t f)) ∙ (ap (further 1) (place-after-rank xs t p e) ∙ ap Some (omega arith)))
    ]

pub rank-after-place : (xs : List ℕ) (t q : ℕ) → q < count t xs → (p : ℕ) × (place t q xs ≡ Some p) × (rank t p xs ≡ q)
rank-after-place [] t q h = absurd (omega arith)
rank-after-place (x ∷ xs) t q h =
    elim (cases_eq x t) [
      | inl f ↦ elim (cases_eq q 0) [
        | inl z ↦ (0, (rw z (place_first t x xs f)), sym z)
        | inr z ↦ let d = rank-after-place xs t (q - 1) (omega (arith, one_same x t f)) in (suc d.0, place_later t x q (q - 1) xs f (omega arith) ∙ (ap (further 1) d.1 ∙ ap Some (omega arith)), omega (arith, one_same x t f, d.2))
      ]
      | inr f ↦ let d = rank-after-place xs t q (omega (arith, one_other x t f)) in (suc d.0, place_other t x q xs f ∙ (ap (further 1) d.1 ∙ ap Some (omega arith)), omega (arith, one_other x t f, d.2))
    ]

pub place-rises : (xs : List ℕ) (t q r p s : ℕ) → place t q xs ≡ Some p → place t r xs ≡ Some s → q < r → p < s
place-rises [] t q r p s d e h = cc
place-rises (x ∷ xs) t q r p s d e h =
    elim (cases_eq x t) [
      | inl f ↦ let later = further_some 1 s (place t (r - 1) xs) (sym (place_later t x r (r - 1) xs f (omega arith)) ∙ e) in
          elim (cases_eq q 0) [
            | inl z ↦ let same : Some 0 ≡ Some p = sym (place_first t x xs f) ∙ (ap (λ k. place t k (x ∷ xs)) (sym z) ∙ d) in let zero_is : 0 ≡ p = cc in omega (arith, later.1.1)
            | inr z ↦ let sooner = further_some 1 p (place t (q - 1) xs) (sym (place_later t x q (q - 1) xs f (omega arith)) ∙ d) in omega (arith, later.1.1, sooner.1.1, place-rises xs t (q - 1) (r - 1) sooner.0 later.0 sooner.1.0 later.1.0 (omega arith))
          ]
      | inr f ↦ let later = further_some 1 s (place t r xs) (sym (place_other t x r xs f) ∙ e) in
          let sooner = further_some 1 p (place t q xs) (sym (place_other t x q xs f) ∙ d) in
          omega (arith, later.1.1, sooner.1.1, place-rises xs t q r sooner.0 later.0 sooner.1.0 later.1.0 h)
    ]

-- there is a place exactly for the numbers of occurrences
pub place_found : (t k : ℕ) (xs : List ℕ) → (IsSome (place t k xs) → k < count t xs) × (k < count t xs → IsSome (place t k xs))
place_found t k xs = (
  λ s. elim (cases_lt k (count t xs)) [
    | inl l ↦ l
    | inr h ↦ let none : place t k xs ≡ None = ap (place t k) (sym (append-nil xs)) ∙ place_behind t xs [] k (k - count t xs) (omega arith) in absurd (true≢false (sym s ∙ ap is_some none))
  ],
  λ l. let d = rank-after-place xs t k l in ap is_some d.1,
)
