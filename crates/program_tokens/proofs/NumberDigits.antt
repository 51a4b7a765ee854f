-- The digits of numbers: reading them one after another, and reading what is written in decimal digits.
use Rattle.std.proofs.Common.{◌≡◌, ℕ, suc, ◌+◌, ◌-◌, ◌*◌, ◌^◌, ◌<◌, ◌≤◌, true, false, List, ◌∷◌, length, drop, get_or, nat_le, nat_lt, arith, refl, sym, ap, ◌∙◌, rules, add-one, drop-cons, Some}
use Rattle.std.proofs.lemmas.Bool.Decides.{nat_tests}
use Rattle.std.proofs.Math.Nat.{pow-succ', mul_assoc, mul-le-mul_left, mul-le-mul_right, one-le-pow, pow-le-pow_right}
use Rattle.std.proofs.lemmas.Fmt.{digits_decimal, digits_value-decimal, length-decimal-le, decimal_nonempty}
use Rattle.std.proofs.lemmas.Str.Parse.{IsNumeralModel, numerals_by_fold, IsDigitsTest}
use Rattle.std.specs.Fmt.{decimal}
use Rattle.std.specs.List.{list_all}
use lib.IntN.{pos, negsuc}
use Rattle.texts.proofs.Conjunction.{split}
use Rattle.program_tokens.specs.Numbers.{is_digit, digits_after, number_of}

-- ---- one digit after another

in_range : (c : ℕ) → is_digit c ≡ true → (48 ≤ c) × (c ≤ 57)
in_range c h = (grind (arith, nat_tests), grind (arith, nat_tests))

there : (i : ℕ) (ds : List ℕ) → i < length ds → drop i ds ≡ get_or ds i 0 ∷ drop (i + 1) ds
there i ds h = rw (add-one, drop-cons ds i 0) refl

-- What a reader of digits knows before one of them, where v is the number of those before it.
pub record IsBeforeDigit (v i : ℕ) (ds : List ℕ) : Type 0 where
  pub digit : (48 ≤ get_or ds i 0) × (get_or ds i 0 ≤ 57)
  pub small : v < 10 ^ 18
  pub rest : list_all is_digit (drop (i + 1) ds) ≡ true
  pub few : (v * 10 + (get_or ds i 0 - 48) + 1) * 10 ^ (length ds - (i + 1)) ≤ 10 ^ 19
  pub later : digits_after v (drop i ds) ≡ digits_after (v * 10 + (get_or ds i 0 - 48)) (drop (i + 1) ds)

one_less : (v d k p : ℕ) → 48 ≤ d → d ≤ 57 → p ≡ 10 * 10 ^ k → (v + 1) * p ≤ 10 ^ 19 → (v * 10 + (d - 48) + 1) * 10 ^ k ≤ 10 ^ 19
one_less v d k p low high e h =
    let a : v * 10 + (d - 48) + 1 ≤ (v + 1) * 10 = omega arith in
    let b = mul-le-mul_right (10 ^ k) a in
    let same = mul_assoc (v + 1) 10 (10 ^ k) ∙ ap (λ q. (v + 1) * q) (sym e) in
    omega (arith, b, same)

at_least_ten : (k p : ℕ) → p ≡ 10 * 10 ^ k → 10 ≤ p
at_least_ten k p e = let one = one-le-pow k 10 (omega arith) in omega arith

below : (v p : ℕ) → 10 ≤ p → (v + 1) * p ≤ 10 ^ 19 → v < 10 ^ 18
below v p h few = let a = mul-le-mul_left (v + 1) h in omega arith

pub before_digit : (v i : ℕ) (ds : List ℕ) → i < length ds → list_all is_digit (drop i ds) ≡ true → (v + 1) * 10 ^ (length ds - i) ≤ 10 ^ 19 → IsBeforeDigit v i ds
before_digit v i ds h all few =
    let p = split (is_digit (get_or ds i 0)) (list_all is_digit (drop (i + 1) ds)) (ap (list_all is_digit) (sym (there i ds h)) ∙ all) in
    let d = in_range (get_or ds i 0) p.0 in
    let n : length ds - i ≡ suc (length ds - (i + 1)) = omega arith in
    let e = ap (λ k. 10 ^ k) n ∙ pow-succ' 10 (length ds - (i + 1)) in
    record {
      digit = d;
      small = below v (10 ^ (length ds - i)) (at_least_ten (length ds - (i + 1)) (10 ^ (length ds - i)) e) few;
      rest = p.1;
      few = one_less v (get_or ds i 0) (length ds - (i + 1)) (10 ^ (length ds - i)) d.0 d.1 e few;
      later = ap (digits_after v) (there i ds h);
    }

-- the digits that a number may have
pub few_behind : (first : ℕ) (others : List ℕ) → is_digit first ≡ true → length others ≤ 18 → (first - 48 + 1) * 10 ^ length others ≤ 10 ^ 19
few_behind first others h short =
    let d = in_range first h in
    let low : first - 48 + 1 ≤ 10 = omega arith in
    let a = mul-le-mul_right (10 ^ length others) low in
    let b = pow-le-pow_right {n = 10} (omega arith) short in
    omega arith

-- ---- numbers in decimal digits

is_one : (c : ℕ) → 48 ≤ c → c ≤ 57 → is_digit c ≡ true
is_one c low high = grind (arith, nat_tests)

digits_tested : IsDigitsTest (λ ds. list_all is_digit ds ≡ true)
digits_tested = record {
  empty = refl;
  parts = λ c cs h. let p = split (is_digit c) (list_all is_digit cs) h in (in_range c p.0, p.1);
  more = λ c cs h k. rw (is_one c h.0 h.1) k;
}

pub numerals : IsNumeralModel (λ ds. list_all is_digit ds ≡ true) (digits_after 0)
numerals = numerals_by_fold _ digits_tested digits_after (search rules)

-- the digits of a size write its number
pub plain_decimal : (n : ℕ) → n < 2 ^ 63 → number_of false (decimal n) ≡ Some (pos n)
unfolding number_of
plain_decimal n h =
    let wide : n < 2 ^ 64 = omega arith in
    let some : nat_le 1 (length (decimal n)) ≡ true = grind (arith, nat_tests, decimal_nonempty n wide) in
    let few : nat_le (length (decimal n)) 19 ≡ true = grind (arith, nat_tests, length-decimal-le 19 n (omega arith) (omega arith) wide) in
    let low : nat_lt n (2 ^ 63) ≡ true = grind (arith, nat_tests) in
    rw (some, few, digits_value-decimal numerals n wide, low) refl

pub negative_decimal : (n : ℕ) → n < 2 ^ 63 → number_of true (decimal (suc n)) ≡ Some (negsuc n)
unfolding number_of
negative_decimal n h =
    let wide : suc n < 2 ^ 64 = omega arith in
    let some : nat_le 1 (length (decimal (suc n))) ≡ true = grind (arith, nat_tests, decimal_nonempty (suc n) wide) in
    let few : nat_le (length (decimal (suc n))) 19 ≡ true = grind (arith, nat_tests, length-decimal-le 19 (suc n) (omega arith) (omega arith) wide) in
    let low : nat_le (suc n) (2 ^ 63) ≡ true = grind (arith, nat_tests) in
    rw (some, few, digits_value-decimal numerals (suc n) wide, low) refl

pub decimal_digits : (n : ℕ) → n < 2 ^ 64 → list_all is_digit (decimal n) ≡ true
decimal_digits n h = digits_decimal numerals n h
