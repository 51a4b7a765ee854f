-- Texts of indexes.
use Rattle.std.proofs.Common.{◌≡◌, ℕ, zero, suc, ◌<◌, ◌≤◌, ◌^◌, eqb, Bool, true, false, not, ◌&&◌, ◌||◌, List, length, slice_index, Result, Ok, Err, refl, sym, true≢false, arith, rules, ne_eqb}
use Rattle.std.proofs.lemmas.Bool.{le-ltb}
use Rattle.std.specs.List.{list_all}
use Rattle.std.specs.Char.{is_ascii_digit}
use Rattle.std.specs.Str.Parse.{ParsesUnsigned, digits_value}
use Rattle.std.proofs.lemmas.Str.Parse.{IsNumeralModel, numerals_by_value, parse_digits}
use Rattle.texts.proofs.Conjunction.{first, second}
use Rattle.file_patches.specs.declared.fault.Cause.TheVariants.{NoPlace}
use Rattle.file_patches.specs.Places.{is_index, index_of}

pub positive : (n : ℕ) → false ≡ eqb n 0 → 0 < n
positive zero h = absurd (true≢false (sym h))
positive (suc n) h = omega arith

not_false : (a : Bool) → not a ≡ true → a ≡ false
not_false true h = sym h
not_false false h = refl

-- more than one digit
pub long_index : (s : List ℕ) → false ≡ eqb (length s) 0 → true ≡ list_all is_ascii_digit s → (length s ≡ 1 → ⊥) → not (eqb (slice_index s 0) 48) ≡ is_index s
long_index s some digits long = rw (sym some, sym digits, ne_eqb (length s) 1 long) refl

digits_of : (s : List ℕ) → is_index s ≡ true → list_all is_ascii_digit s ≡ true
digits_of s h = second (not (eqb (length s) 0)) (list_all is_ascii_digit s) (first (not (eqb (length s) 0) && list_all is_ascii_digit s) (eqb (length s) 1 || not (eqb (slice_index s 0) 48)) h)

some_of : (s : List ℕ) → is_index s ≡ true → 0 < length s
some_of s h =
    positive (length s) (sym (not_false (eqb (length s) 0) (first (not (eqb (length s) 0)) (list_all is_ascii_digit s) (first (not (eqb (length s) 0) && list_all is_ascii_digit s) (eqb (length s) 1 || not (eqb (slice_index s 0) 48)) h))))

pub digits_model : IsNumeralModel (λ ds. list_all is_ascii_digit ds ≡ true) (digits_value 10)
digits_model = numerals_by_value _ (search rules)

-- what is no u64 is past every bound
pub past_index : {E : Type 0} (s : List ℕ) (bound : ℕ) (e : E) (r : Result ℕ E) → is_index s ≡ true → ParsesUnsigned 64 10 s r → r ≡ Err e → bound < 2 ^ 64 → index_of s bound ≡ Err NoPlace
past_index s bound e (Ok x) i h same small = absurd cc
past_index s bound e (Err y) i h same small =
    let no = parse_digits digits_model 64 s (Err y) h (digits_of s i) in
    let never : ¬ (digits_value 10 s < 2 ^ 64) = λ fits. no (some_of s i, fits) in
    let big : bound ≤ digits_value 10 s = omega (arith, never, small) in
    rw (i, le-ltb (digits_value 10 s) bound big) refl
