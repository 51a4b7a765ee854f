-- Which numbers of a tree are an i64 or a u64: the strict words agree with what a `Number` answers.
use Rattle.std.proofs.Common.{◌≡◌, ℕ, suc, ℤ, pos, negsuc, ◌^◌, ◌<◌, true, Some, None, refl, sym, ap, ◌∙◌, arith, nat_lt, lt-ltb, FitsSigned, w64}
use borrow.Author.Tests.{leb-true}
use Rattle.std.proofs.lemmas.Int.{ints}
use Rattle.serde_json.specs.View.{number_view}
use Rattle.serde_json.specs.declared.number.Number.{Number}
use Rattle.serde_json.specs.Data.{Num, unsigned, negative, float}
use Rattle.serde_json.specs.Find.{as_i64, as_u64}
use Rattle.serde_json.specs.Number.{num_of, is_valid}
use Rattle.serde_json.specs.declared.number.N.{N}
use Rattle.serde_json.specs.declared.number.N.TheVariants.{PosInt, NegInt, Float}
use Rattle.doc_values.specs.Integers.{fits_i64}
use Rattle.value_json.specs.Numbers.{int_in, count_in}

pub count_some : (x : Num) (n : ℕ) → Some n ≡ as_u64 x → n < 2 ^ 64 → Some n ≡ count_in x
count_some (unsigned m) n h fits = let same : m ≡ n = cc in rw (same, lt-ltb n (2 ^ 64) fits)
count_some (negative z) n h fits = cc
count_some (float f) n h fits = cc

pub count_none : (x : Num) → None ≡ as_u64 x → None ≡ count_in x
count_none (unsigned m) h = cc
count_none (negative z) h = refl
count_none (float f) h = refl

negative_only : (m : ℕ) → is_valid (NegInt (pos m)) ≡ true → ⊥
negative_only m h = omega (arith, leb-true (suc m) 0 h)

pub fits : (z : ℤ) → FitsSigned w64 z → fits_i64 z ≡ true
fits (pos n) h = lt-ltb n (2 ^ 63) (omega (arith, ints, h))
fits (negsuc n) h = lt-ltb n (2 ^ 63) (omega (arith, ints, h))

int_of_valid : (x : N) (z : ℤ) → is_valid x ≡ true → FitsSigned w64 z → Some z ≡ as_i64 (num_of x) → Some z ≡ int_in (num_of x)
int_of_valid (PosInt m) z valid small h = h
int_of_valid (NegInt (pos m)) z valid small h = absurd (negative_only m valid)
int_of_valid (NegInt (negsuc m)) z valid small h =
    let same : z ≡ negsuc m = cc in
    let within : nat_lt m (2 ^ 63) ≡ true = ap fits_i64 (sym same) ∙ fits z small in
    rw (same, within)
int_of_valid (Float f) z valid small h = cc

pub int_some : (x : Number) (z : ℤ) → Some z ≡ as_i64 (number_view x) → FitsSigned w64 z → Some z ≡ int_in (number_view x)
int_some x z h small = int_of_valid x.n z x.valid small h

int_of_none : (x : N) → None ≡ as_i64 (num_of x) → None ≡ int_in (num_of x)
int_of_none (PosInt m) h = h
int_of_none (NegInt (pos m)) h = refl
int_of_none (NegInt (negsuc m)) h = cc
int_of_none (Float f) h = refl

pub int_none : (x : Number) → None ≡ as_i64 (number_view x) → None ≡ int_in (number_view x)
int_none x h = int_of_none x.n h
