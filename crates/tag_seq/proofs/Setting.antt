-- Counts of a list of tags once one of them is another one.
use Rattle.std.proofs.Common.{◌≡◌, ℕ, zero, suc, ◌+◌, ◌<◌, ◌≤◌, List, [], ◌∷◌, length, get_or, ap, sym, ◌∙◌, arith}
use Rattle.std.specs.Prelude.{slice_set}
use Rattle.std.proofs.Math.ListN.{length-set}
use Rattle.tag_seq.specs.Tags.{count, one_if_same}
use Rattle.tag_seq.specs.Numbers.{number}
use Rattle.tag_seq.specs.Totals.{AreTotals}

-- a tag that stands in a list is counted there
pub count_at : (xs : List ℕ) (i t : ℕ) → i < length xs → one_if_same (get_or xs i 0) t ≤ count t xs
count_at [] i t h = absurd (omega arith)
count_at (x ∷ xs) zero t h = omega arith
count_at (x ∷ xs) (suc i) t h = omega (arith, count_at xs i t (omega arith))

pub count_set : (xs : List ℕ) (i v t : ℕ) → i < length xs → count t (slice_set xs i v) + one_if_same (get_or xs i 0) t ≡ count t xs + one_if_same v t
count_set [] i v t h = absurd (omega arith)
count_set (x ∷ xs) zero v t h = omega arith
count_set (x ∷ xs) (suc i) v t h = omega (arith, count_set xs i v t (omega arith))

-- the total of a list once one of its tags is another one
pub totals_set : (n m i v old : ℕ) (c e : List (ℕ × ℕ)) (xs ys : List ℕ) → AreTotals n c xs → i < n → old ≡ get_or xs i 0 → ys ≡ slice_set xs i v → m ≡ n → ((t : ℕ) → number t e + one_if_same old t ≡ number t c + one_if_same v t) → AreTotals m e ys
totals_set n m i v old c e xs ys a h o s z f = record {
  all = z ∙ (a.all ∙ sym (ap length s ∙ length-set xs i v));
  each = λ t. let there : i < length xs = omega (arith, a.all) in let same = ap (λ x. one_if_same x t) o in let new = ap (count t) s in omega (arith, f t, a.each t, count_set xs i v t there);
}
