-- Turns, numbers of batches, and lists that grow at their end.
use Rattle.std.proofs.Common.{◌≡◌, ℕ, ◌+◌, ◌-◌, ◌<◌, ◌≤◌, Bool, true, false, not, List, [], ◌∷◌, ◌++◌, ◌⊎◌, inl, inr, zero, suc, if◌then◌else◌, length, slice_get, Some, refl, sym, ap, ◌∙◌, arith, length-append}
use Rattle.std.proofs.lemmas.Bool.Decides.{nat_tests}
use Rattle.std.specs.Prelude.{nat_eq, nat_le}
use Rattle.texts.specs.declared.side.Side.{Side}
use Rattle.texts.specs.declared.side.Side.TheVariants.{Left, Right}
use Rattle.texts.specs.Sides.{other}
use Rattle.turn_link.specs.Turns.{is_even, is_turn, last_made}

pub even-next : (n : ℕ) → is_even (n + 1) ≡ not (is_even n)
even-next n = grind (arith, nat_tests)

pub positive : (n : ℕ) → 0 < n → nat_eq n 0 ≡ false
positive n h = grind (arith, nat_tests)

pub at_most : (m n : ℕ) → nat_le m n ≡ false → n < m
at_most m n h = grind (arith, nat_tests)

pub not_at_most : (m n : ℕ) → n < m → nat_le m n ≡ false
not_at_most m n h = grind (arith, nat_tests)

pub length-snoc : {A : Type 0} (xs : List A) (x : A) → length (xs ++ x ∷ []) ≡ length xs + 1
length-snoc xs x = grind (arith, length-append)

pub slice_get-end : {A : Type 0} (xs : List A) (x : A) → slice_get (xs ++ x ∷ []) (length xs) ≡ Some x
slice_get-end [] x = refl
slice_get-end (y ∷ xs) x = slice_get-end xs x

-- what stands in a list with one more element at its end stood there before, or is that element
pub slice_get-snoc : {A : Type 0} (xs : List A) (x : A) (k : ℕ) (y : A) → slice_get (xs ++ x ∷ []) k ≡ Some y → (slice_get xs k ≡ Some y) ⊎ (y ≡ x)
slice_get-snoc [] x zero y h = inr cc
slice_get-snoc [] x (suc k) y h = inl h
slice_get-snoc (z ∷ xs) x zero y h = inl h
slice_get-snoc (z ∷ xs) x (suc k) y h = slice_get-snoc xs x k y h

-- ---- turns

-- the side whose turn it is not made the last batch, and the number of its own last batch stays when it takes one
pub turn-next : (side : Side) (n : ℕ) → is_turn side (n + 1) ≡ not (is_turn side n)
turn-next Left n = even-next n
turn-next Right n = ap not (even-next n)

pub turn-other : (side : Side) (n : ℕ) → is_turn (other side) n ≡ not (is_turn side n)
turn-other Left n = refl
turn-other Right n = not-not (is_even n)
  where
    not-not : (b : Bool) → b ≡ not (not b)
    not-not true = refl
    not-not false = refl

pub last_made-taken : (side : Side) (n : ℕ) → is_turn side n ≡ false → last_made side (n + 1) ≡ last_made side n
last_made-taken side n off =
    let on : is_turn side (n + 1) ≡ true = turn-next side n ∙ ap not off in
    let less : n + 1 - 1 ≡ n = omega arith in
    rw (on, off) less

pub last_made-sealed : (side : Side) (n : ℕ) → is_turn side n ≡ true → last_made side (n + 1) ≡ n + 1
last_made-sealed side n on =
    let off : is_turn side (n + 1) ≡ false = turn-next side n ∙ ap not on in
    rw off refl

pub last_made-le : (side : Side) (n : ℕ) → last_made side n ≤ n
last_made-le side n = by_turn (is_turn side n)
  where
    by_turn : (b : Bool) → (if b then n - 1 else n) ≤ n
    by_turn true = omega arith
    by_turn false = omega arith

-- two numbers in a row are not both odd
not_both_odd : (n : ℕ) → is_even (n + 1) ≡ false → is_even n ≡ false → ⊥
not_both_odd n next odd = let e = even-next n in cc

near_cases : (a b : ℕ) → a ≤ b + 1 → b ≤ a + 1 → (a ≡ b) ⊎ (a ≡ b + 1) ⊎ (b ≡ a + 1)
near_cases zero zero ab ba = inl refl
near_cases zero (suc b) ab ba = inr (inr (omega arith))
near_cases (suc a) zero ab ba = inr (inl (omega arith))
near_cases (suc a) (suc b) ab ba =
    elim (near_cases a b (omega arith) (omega arith)) [ inl same ↦ inl (omega arith) | inr (inl more) ↦ inr (inl (omega arith)) | inr (inr less) ↦ inr (inr (omega arith)) ]

-- two numbers at most one apart are the same where both are odd
pub both_odd : (a b : ℕ) → a ≤ b + 1 → b ≤ a + 1 → is_even a ≡ false → is_even b ≡ false → a ≡ b
both_odd a b ab ba odd odd' =
    elim (near_cases a b ab ba) [
      | inl same ↦ same
      | inr (inl more) ↦ absurd (not_both_odd b (sym (ap is_even more) ∙ odd) odd')
      | inr (inr less) ↦ absurd (not_both_odd a (sym (ap is_even less) ∙ odd') odd)
    ]
