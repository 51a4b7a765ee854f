-- How a generated journal begins and ends, and the sum of its numbers.
use Rattle.std.proofs.Common.{◌≡◌, mul-le-mul_left, drop-cons, ℕ, suc, ◌+◌, ◌*◌, ◌<◌, ◌≤◌, ◌^◌, ℤ, pos, negsuc, List, [], ◌∷◌, length, drop, get_or, Some, refl, ap, ◌∙◌, arith}
use Rattle.std.specs.Prelude.{◌+ℤ◌}
use Rattle.std.proofs.lemmas.Int.{ints}
use Rattle.doc_values.specs.Documents.{DocTree, unit}
use Rattle.edit_session.specs.Step.{TripleTree}
use Rattle.run_gen.specs.Journal.{generated_number, sum_of, generated_names, nums_in, first_triple}
use Rattle.run_gen.specs.Invariant.{absolute, weight, texts_of, numbers_of, IsGenerated, counted}
use Rattle.doc_values.proofs.Lists.{doc_list-docs_of}

pub starts : IsGenerated 0 0 0 first_triple
starts = record {
  documents = record { items = []; left_is = refl; right_is = refl; are = record { all = refl; ints = tt } };
  texts = refl;
  numbers = refl;
  few = omega arith;
  light = omega arith;
}

nums_are : (k p o : ℕ) (t : TripleTree) (h : IsGenerated k p o t) → nums_in t.right ≡ numbers_of h.documents.items
nums_are k p o t h = ap nums_in h.documents.right_is ∙ doc_list-docs_of (numbers_of h.documents.items)

names_are : (k p o : ℕ) (t : TripleTree) (h : IsGenerated k p o t) → generated_names t.right ≡ texts_of h.documents.items
names_are k p o t h = ap generated_names h.documents.right_is ∙ doc_list-docs_of (texts_of h.documents.items)

-- twice the numbers together are at most k times k + 1
pub light : (k p o : ℕ) (t : TripleTree) → IsGenerated k p o t → 2 * weight (nums_in t.right) ≤ k * (k + 1)
light k p o t h = let e = ap weight (nums_are k p o t h) in let l = h.light in omega arith

square : (k : ℕ) → k ≤ 10000 → k * (k + 1) ≤ 100010000
square k h =
    let a : k * (k + 1) ≤ k * 10001 = mul-le-mul_left k (omega arith) in
    omega arith

pub at_most : (k p o : ℕ) (t : TripleTree) → k ≤ 10000 → IsGenerated k p o t → weight (nums_in t.right) ≤ 50005000
at_most k p o t small h = let l = light k p o t h in let s = square k small in omega arith

-- the summary where no entry is left
pub ended : (k p o : ℕ) (t : TripleTree) → IsGenerated k p o t
    → counted k t (Some []) ≡ Some (record { accepted = k; refused = 0; names = p; nums = o; sum = sum_of (nums_in t.right) })
ended k p o t h =
    let a : k + 0 ≡ k = omega arith in
    let n : length (generated_names t.right) ≡ p = ap length (names_are k p o t h) ∙ h.texts in
    let m : length (nums_in t.right) ≡ o = ap length (nums_are k p o t h) ∙ h.numbers in
    rw (a, n, m) refl

-- ---- sums

-- the numbers before place i have the sum s, which is not larger than they are together
pub record IsSummed (ds : List DocTree) (i : ℕ) (s : ℤ) : Type 0 where
  pub sum : s +ℤ sum_of (drop i ds) ≡ sum_of ds
  pub small : absolute s + weight (drop i ds) ≤ weight ds

absolute_at : (r s z : ℤ) → r ≡ s +ℤ z → absolute r ≤ absolute s + absolute z
absolute_at (pos a) (pos b) (pos c) e = omega (arith, ints)
absolute_at (pos a) (pos b) (negsuc c) e = omega (arith, ints)
absolute_at (pos a) (negsuc b) (pos c) e = omega (arith, ints)
absolute_at (pos a) (negsuc b) (negsuc c) e = omega (arith, ints)
absolute_at (negsuc a) (pos b) (pos c) e = omega (arith, ints)
absolute_at (negsuc a) (pos b) (negsuc c) e = omega (arith, ints)
absolute_at (negsuc a) (negsuc b) (pos c) e = omega (arith, ints)
absolute_at (negsuc a) (negsuc b) (negsuc c) e = omega (arith, ints)

pub absolute_sum : (s z : ℤ) → absolute (s +ℤ z) ≤ absolute s + absolute z
absolute_sum s z = absolute_at (s +ℤ z) s z refl

module _ (ds : List DocTree) (i : ℕ) (s : ℤ) (below : i < length ds) (h : IsSummed ds i s) where
  here : drop i ds ≡ get_or ds i unit ∷ drop (suc i) ds
  here = drop-cons ds i unit below

  pub sum_more : IsSummed ds (suc i) (s +ℤ generated_number (get_or ds i unit))
  sum_more =
      let a = ap sum_of here in
      let w = ap weight here in
      let b = absolute_sum s (generated_number (get_or ds i unit)) in
      let sum = h.sum in
      let small = h.small in
      record { sum = omega (arith, ints); small = omega arith }

  pub sum_below : absolute (s +ℤ generated_number (get_or ds i unit)) ≤ weight ds
  sum_below = let more = sum_more in let small = more.small in omega arith

-- a sum is at most what the numbers are together
pub sum_within : (ds : List DocTree) → absolute (sum_of ds) ≤ weight ds
sum_within [] = omega arith
sum_within (d ∷ ds) =
    let rest = sum_within ds in
    let more = absolute_sum (generated_number d) (sum_of ds) in
    omega arith
