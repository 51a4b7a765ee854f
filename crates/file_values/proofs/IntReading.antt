-- A text is read as the i64 that it is written from.
use Rattle.std.proofs.Common.{◌≡◌, ℤ, pos, negsuc, true, false, bytes_eq, List, ℕ, Option, Some, None, Result, Ok, Err, refl, sym, subst, ap, ◌∙◌, arith, FitsSigned, w64}
use Rattle.std.proofs.lemmas.Bool.Decides.{nat_tests}
use Rattle.std.proofs.lemmas.Fmt.{parse-signed_decimal}
use Rattle.std.specs.Fmt.{signed_decimal}
use Rattle.std.specs.Str.Parse.{ParsesSigned}
use Rattle.texts.proofs.KeyOrder.{bytes_eq-refl}
use Rattle.doc_values.specs.Integers.{fits_i64}
use Rattle.file_forms.specs.FileValues.{int_text}
use Rattle.file_forms.proofs.IntTexts.{int_again, int_found}
use Rattle.file_values.proofs.IntRanges.{fits}

in_range : (z : ℤ) → fits_i64 z ≡ true → FitsSigned w64 z
in_range (pos n) h = record { sfits = grind (arith, nat_tests) }
in_range (negsuc n) h = record { sfits = grind (arith, nat_tests) }

parsed : {E : Type 0} (s : List ℕ) (z : ℤ) (r : Result ℤ E) → ParsesSigned w64 10 s r → int_text s ≡ Some z → r ≡ Ok z
parsed s z r p h =
    let k = int_found s z h in
    let range = in_range z k.0 in
    parse-signed_decimal w64 z s r range range.sfits (sym k.1) p

none_if : (o : Option ℤ) → ((z : ℤ) → o ≡ Some z → ⊥) → None ≡ o
none_if None h = refl
none_if (Some z) h = absurd (h z refl)

-- what is not parsed is no i64
pub not_parsed : {E : Type 0} (s : List ℕ) (r : Result ℤ E) (e : E) → ParsesSigned w64 10 s r → r ≡ Err e → None ≡ int_text s
not_parsed s r e p is = none_if (int_text s) (λ z h. let k = parsed s z r p h in cc)

-- nor is what is written otherwise
pub not_same : {E : Type 0} (s : List ℕ) (n : ℤ) (r : Result ℤ E) → ParsesSigned w64 10 s r → r ≡ Ok n → bytes_eq (signed_decimal n) s ≡ false → None ≡ int_text s
not_same s n r p is differs =
    none_if (int_text s) (λ z h.
    let k = parsed s z r p h in
    let written : signed_decimal n ≡ s = (let e : n ≡ z = cc in ap signed_decimal e) ∙ (int_found s z h).1 in
    let same : bytes_eq (signed_decimal n) s ≡ true = ap (λ t. bytes_eq t s) written ∙ bytes_eq-refl s in
    let no : true ≡ false = sym same ∙ differs in cc)

pub parsed_range : {E : Type 0} (s : List ℕ) (n : ℤ) (r : Result ℤ E) → ParsesSigned w64 10 s r → r ≡ Ok n → FitsSigned w64 n
parsed_range s n (Ok m) p is = let e : m ≡ n = cc in subst (λ (x : ℤ). FitsSigned w64 x) (sym p.1 ∙ e) p.0.1
parsed_range s n (Err e) p is = cc

pub same_text : (s : List ℕ) (n : ℤ) → FitsSigned w64 n → signed_decimal n ≡ s → Some n ≡ int_text s
same_text s n range is = sym (int_again n (fits n range)) ∙ ap int_text is
