-- A number in decimal has no line feed.
use Rattle.std.proofs.Common.{◌≡◌, ℕ, zero, suc, ◌+◌, ◌/◌, ◌%◌, ◌<◌, List, [], ◌∷◌, Bool, true, false, not, ◌&&◌, cond, refl, ap₂, arith}
use Rattle.std.specs.Prelude.{◌==◌, nat_lt, decimal}
use Rattle.std.specs.Fmt.{digits, digits_onto, digit_glyph}
use Rattle.std.proofs.lemmas.Bool.{ne_eqb}
use Rattle.edit_journal.specs.Pieces.{has_no_end}

pub cons_plain : (x : ℕ) (xs : List ℕ) → x == 10 ≡ false → has_no_end xs ≡ true → has_no_end (x ∷ xs) ≡ true
cons_plain x xs p q = ap₂ (λ b c. not b && c) p q

pub no_ten : (n : ℕ) → 10 < n → n == 10 ≡ false
no_ten n h = ne_eqb n 10 (λ e. omega (arith, e, h))

glyph_plain : (upper : Bool) (d : ℕ) → digit_glyph upper d == 10 ≡ false
glyph_plain upper d = by_test (nat_lt d 10) upper where
  by_test : (b u : Bool) → (cond b (48 + d) (cond u (55 + d) (87 + d))) == 10 ≡ false
  by_test true u = no_ten (48 + d) (omega arith)
  by_test false true = no_ten (55 + d) (omega arith)
  by_test false false = no_ten (87 + d) (omega arith)

digits_plain : (k base : ℕ) (upper : Bool) (n : ℕ) (acc : List ℕ) → has_no_end acc ≡ true → has_no_end (digits_onto k base upper n acc) ≡ true
digits_plain zero base upper n acc h = h
digits_plain (suc k) base upper n acc h =
    let more = cons_plain (digit_glyph upper (n % base)) acc (glyph_plain upper (n % base)) h in
    elim (n / base == 0) as (λ b. has_no_end (cond b (digit_glyph upper (n % base) ∷ acc) (digits_onto k base upper (n / base) (digit_glyph upper (n % base) ∷ acc))) ≡ true) [
      | true ↦ more
      | false ↦ digits_plain k base upper (n / base) (digit_glyph upper (n % base) ∷ acc) more
    ]

pub decimal_plain : (n : ℕ) → has_no_end (decimal n) ≡ true
unfolding digits
decimal_plain n = digits_plain 64 10 false n [] refl
