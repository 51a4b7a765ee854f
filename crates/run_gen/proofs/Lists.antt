-- The three numbers of a list of items: how many texts, how many numbers, and how much the numbers are together.
use Rattle.std.proofs.Common.{◌≡◌, ℕ, ◌+◌, ◌<◌, ◌≤◌, ◌^◌, ℤ, pos, negsuc, Bool, true, false, List, [], ◌∷◌, ◌++◌, length, codes, refl, ap, ◌∙◌, arith, length-append}
use Rattle.std.specs.Prelude.{bytes_eq, cond, ◌+ℤ◌}
use Rattle.std.proofs.lemmas.Int.{ints}
use Rattle.doc_values.specs.Documents.{DocTree, alt}
use Rattle.doc_values.specs.Integers.{fits_i64}
use Rattle.lens_core.specs.Consistency.{contents_with}
use Rattle.run_gen.specs.Invariant.{absolute, weight, texts_of, numbers_of}
use Rattle.run_gen.proofs.Measures.{IsAdditive}
use Rattle.std.proofs.lemmas.Bool.{lt-ltb}

before_both : (b : Bool) (v : DocTree) (xs ys : List DocTree) → cond b (v ∷ (xs ++ ys)) (xs ++ ys) ≡ cond b (v ∷ xs) xs ++ ys
before_both true v xs ys = refl
before_both false v xs ys = refl

contents-append : (n : List ℕ) (xs ys : List DocTree) → contents_with n (xs ++ ys) ≡ contents_with n xs ++ contents_with n ys
contents-append n [] ys = refl
contents-append n (alt m v ∷ xs) ys =
    ap (λ z. cond (bytes_eq m n) (v ∷ z) z) (contents-append n xs ys) ∙ before_both (bytes_eq m n) v (contents_with n xs) (contents_with n ys)
contents-append n (_ ∷ xs) ys = contents-append n xs ys

pub weight-append : IsAdditive weight
weight-append [] ys = omega arith
weight-append (d ∷ xs) ys = let e = weight-append xs ys in omega arith

abbrev pub text_count : List DocTree → ℕ
text_count items = length (texts_of items)

abbrev pub number_count : List DocTree → ℕ
number_count items = length (numbers_of items)

abbrev pub number_weight : List DocTree → ℕ
number_weight items = weight (numbers_of items)

pub text_count-append : IsAdditive text_count
text_count-append xs ys = ap length (contents-append (codes "p") xs ys) ∙ length-append (texts_of xs) (texts_of ys)

pub number_count-append : IsAdditive number_count
number_count-append xs ys = ap length (contents-append (codes "o") xs ys) ∙ length-append (numbers_of xs) (numbers_of ys)

pub number_weight-append : IsAdditive number_weight
number_weight-append xs ys = ap weight (contents-append (codes "o") xs ys) ∙ weight-append (numbers_of xs) (numbers_of ys)

-- ---- sums

fits_at : (s z : ℤ) (k : ℕ) → s ≡ z +ℤ pos k → absolute z + k < 2 ^ 63 → fits_i64 s ≡ true
fits_at (pos m) (pos n) k e h = lt-ltb m (2 ^ 63) (omega (arith, ints))
fits_at (pos m) (negsuc n) k e h = lt-ltb m (2 ^ 63) (omega (arith, ints))
fits_at (negsuc m) (pos n) k e h = lt-ltb m (2 ^ 63) (omega (arith, ints))
fits_at (negsuc m) (negsuc n) k e h = lt-ltb m (2 ^ 63) (omega (arith, ints))

-- the sum fits
pub sum_fits : (z : ℤ) (k : ℕ) → absolute z + k < 2 ^ 63 → fits_i64 (z +ℤ pos k) ≡ true
sum_fits z k h = fits_at (z +ℤ pos k) z k refl h

heavier_at : (s z : ℤ) (k : ℕ) → s ≡ z +ℤ pos k → absolute s ≤ absolute z + k
heavier_at (pos m) (pos n) k e = omega (arith, ints)
heavier_at (pos m) (negsuc n) k e = omega (arith, ints)
heavier_at (negsuc m) (pos n) k e = omega (arith, ints)
heavier_at (negsuc m) (negsuc n) k e = omega (arith, ints)

pub heavier : (z : ℤ) (k : ℕ) → absolute (z +ℤ pos k) ≤ absolute z + k
heavier z k = heavier_at (z +ℤ pos k) z k refl
