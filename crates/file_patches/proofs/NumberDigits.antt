-- Digits of numbers.
use Rattle.std.proofs.Common.{◌≡◌, ℕ, suc, ◌+◌, ◌-◌, ◌*◌, add-one, drop-cons, drop, get_or, lt-ltb, ◌<◌, ◌≤◌, eqb, Bool, true, false, List, [], ◌∷◌, ◌++◌, length, refl, ap, arith}
use Rattle.std.specs.Char.{digit_value}
use Rattle.std.proofs.lemmas.Bool.{le-ltb}
use Rattle.std.proofs.lemmas.Str.Parse.{digit_at}
use Rattle.std.specs.Str.Parse.{AllDigits, digits_value_after}
use Rattle.file_patches.specs.Numbers.{significant, all_zeros, same_digits}

-- more digits make no number smaller
pub grows : (n : ℕ) (ds : List ℕ) → n ≤ digits_value_after 10 n ds
grows n [] = omega arith
grows n (d ∷ ds) = let more = grows (n * 10 + digit_value d) ds in omega (arith, more)

some_by : (b : Bool) (d : ℕ) (ds es : List ℕ) → eqb d 48 ≡ b → 0 < length (significant (d ∷ ds)) → (0 < length (significant ds) → significant (ds ++ es) ≡ significant ds ++ es) → significant ((d ∷ ds) ++ es) ≡ significant (d ∷ ds) ++ es
some_by true d ds es e h k = let g : 0 < length (significant ds) = rw e at h in rw e (k g)
some_by false d ds es e h k = rw e refl

-- the zeros in front are in the first part, where that has other digits
pub some_digits : (ds es : List ℕ) → 0 < length (significant ds) → significant (ds ++ es) ≡ significant ds ++ es
some_digits [] es h = absurd (omega (arith, h))
some_digits (d ∷ ds) es h = some_by (eqb d 48) d ds es refl h (some_digits ds es)

none_by : (b : Bool) (d : ℕ) (ds es : List ℕ) → eqb d 48 ≡ b → length (significant (d ∷ ds)) ≡ 0 → (length (significant ds) ≡ 0 → significant (ds ++ es) ≡ significant es) → significant ((d ∷ ds) ++ es) ≡ significant es
none_by true d ds es e h k = let g : length (significant ds) ≡ 0 = rw e at h in rw e (k g)
none_by false d ds es e h k = let g : suc (length ds) ≡ 0 = rw e at h in absurd (omega (arith, g))

pub no_digits : (ds es : List ℕ) → length (significant ds) ≡ 0 → significant (ds ++ es) ≡ significant es
no_digits [] es h = refl
no_digits (d ∷ ds) es h = none_by (eqb d 48) d ds es refl h (no_digits ds es)

-- digits that are not all zeros differ from none
pub not_zeros : (ds es : List ℕ) → length es ≡ 0 → same_digits ds es ≡ all_zeros ds
not_zeros [] [] h = refl
not_zeros (d ∷ ds) [] h = refl
not_zeros ds (e ∷ es) h = absurd (omega (arith, h))

pub empty_zeros : (ds : List ℕ) → length ds ≡ 0 → all_zeros ds ≡ true
empty_zeros [] h = refl
empty_zeros (d ∷ ds) h = absurd (omega (arith, h))

digit_small : (d : ℕ) → 48 ≤ d → d ≤ 57 → digit_value d ≡ d - 48
digit_small d h g = rw (le-ltb d 48 h, lt-ltb d 58 (omega (arith, g))) refl

-- the number goes on with the next digit
pub next_digit : (ds : List ℕ) (i n : ℕ) → AllDigits 10 ds → i < length ds → digits_value_after 10 n (drop i ds) ≡ digits_value_after 10 (n * 10 + (get_or ds i 0 - 48)) (drop (i + 1) ds)
next_digit ds i n all h =
    let r = digit_at ds i all h in
    rw (add-one, drop-cons ds i 0 h) (ap (λ x. digits_value_after 10 (n * 10 + x) (drop (suc i) ds)) (digit_small (get_or ds i 0) r.0 r.1))
