-- What std parses from digits is number_of.
use Rattle.std.proofs.Common.{◌≡◌, ℕ, zero, suc, ◌==◌, true≢false, ◌<◌, ◌≤◌, ◌^◌, List, length, true, false, Some, Result, Ok, Err, refl, sym, ap, arith, rules, lt-ltb, le-leb}
use Rattle.std.specs.Result.{OkIff, result_ok}
use Rattle.std.specs.List.{list_all}
use Rattle.std.specs.Char.{is_ascii_digit}
use Rattle.std.proofs.lemmas.Str.Parse.{IsNumeralModel, numerals_by_fold}
use Rattle.std.proofs.lemmas.Bool.{le-ltb}
use Rattle.command_words.specs.Orders.{decimal_after, number_of}

pub decimal_is_numeral : IsNumeralModel (λ ds. list_all is_ascii_digit ds ≡ true) (decimal_after 0)
decimal_is_numeral = numerals_by_fold _ (search rules) decimal_after (search rules)

pub ok_number : {E : Type 0} (bs : List ℕ) (r : Result ℕ E) → list_all is_ascii_digit bs ≡ true → 0 < length bs → length bs ≤ 20 → OkIff r ((0 < length bs) × (decimal_after 0 bs < 2 ^ 64)) (decimal_after 0 bs) → result_ok r ≡ number_of bs
ok_number bs (Ok x) digits some short h = rw (digits, lt-ltb 0 (length bs) some, le-leb (length bs) 20 short, lt-ltb (decimal_after 0 bs) (2 ^ 64) h.0.1) (ap Some h.1)
ok_number bs (Err e) digits some short h =
    let never : ¬ (decimal_after 0 bs < 2 ^ 64) = λ fits. h (some, fits) in
    let big : 2 ^ 64 ≤ decimal_after 0 bs = omega (arith, never) in
    rw (digits, lt-ltb 0 (length bs) some, le-leb (length bs) 20 short, le-ltb (decimal_after 0 bs) (2 ^ 64) big) refl

pub positive : (n : ℕ) → false ≡ (n == 0) → 0 < n
positive zero h = absurd (true≢false (sym h))
positive (suc n) h = omega arith
