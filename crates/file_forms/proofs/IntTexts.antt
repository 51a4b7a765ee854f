-- Whole numbers and their texts.
use Rattle.std.proofs.Common.{◌≡◌, ℕ, suc, ◌<◌, ◌^◌, ℤ, pos, negsuc, neg_ℤ, true, ◌&&◌, cond, bytes_eq, List, [], ◌∷◌, Some, None, decimal, sym, subst, ap, ◌∙◌, arith}
use Rattle.std.proofs.lemmas.Bool.Decides.{nat_tests}
use Rattle.std.proofs.DigitsParse.{decimal_is_IsNumeral}
use Rattle.std.specs.Char.{digit_value}
use Rattle.std.specs.Fmt.{signed_decimal}
use Rattle.std.specs.Str.Parse.{IsNumeral, digits_value}
use Rattle.std.proofs.lemmas.Bool.{ne_eqb}
use Rattle.doc_values.specs.Integers.{fits_i64}
use Rattle.texts.proofs.Conjunction.{both, first, second}
use Rattle.texts.proofs.KeyOrder.{bytes_eq-refl}
use Rattle.texts.proofs.Tests.{bytes_eq-is}
use Rattle.file_forms.specs.FileValues.{int_value, int_from, int_text}
use Rattle.file_forms.proofs.Facts.{if_some}

value-digits : (ds : List ℕ) → IsNumeral 10 ds → int_value ds ≡ pos (digits_value 10 ds)
value-digits [] h = absurd (omega (arith, h.0))
value-digits (c ∷ cs) h =
    ap (λ b. cond b (neg_ℤ (pos (digits_value 10 cs))) (pos (digits_value 10 (c ∷ cs))))
    (ne_eqb c 45 (λ e. let k : digit_value 45 < 10 = subst (λ (x : ℕ). digit_value x < 10) e h.1.0 in omega arith))

low : (n : ℕ) → fits_i64 (pos n) ≡ true → n < 2 ^ 63
low n h = grind (arith, nat_tests)

low_below : (n : ℕ) → fits_i64 (negsuc n) ≡ true → n < 2 ^ 63
low_below n h = grind (arith, nat_tests)

pub value-decimal : (z : ℤ) → fits_i64 z ≡ true → int_value (signed_decimal z) ≡ z
value-decimal (pos n) h =
    let small = low n h in
    let k = decimal_is_IsNumeral n (omega (arith, small)) in
    value-digits (decimal n) k.0 ∙ ap pos k.1
value-decimal (negsuc n) h =
    let small = low_below n h in
    let k = decimal_is_IsNumeral (suc n) (omega (arith, small)) in
    ap (λ m. neg_ℤ (pos m)) k.1

pub int_again : (z : ℤ) → fits_i64 z ≡ true → int_text (signed_decimal z) ≡ Some z
int_again z h =
    ap (int_from (signed_decimal z)) (value-decimal z h)
    ∙ ap (λ b. cond b (Some z) None) (both (fits_i64 z) (bytes_eq (signed_decimal z) (signed_decimal z)) h (bytes_eq-refl (signed_decimal z)))

pub int_found : (s : List ℕ) (z : ℤ) → int_text s ≡ Some z → (fits_i64 z ≡ true) × (signed_decimal z ≡ s)
int_found s z h =
    let v = int_value s in
    let p = if_some (fits_i64 v && bytes_eq (signed_decimal v) s) v z h in
    let fits = first (fits_i64 v) (bytes_eq (signed_decimal v) s) p.0 in
    let same = second (fits_i64 v) (bytes_eq (signed_decimal v) s) p.0 in
    (ap fits_i64 (sym p.1) ∙ fits, ap signed_decimal (sym p.1) ∙ bytes_eq-is (signed_decimal v) s same)
