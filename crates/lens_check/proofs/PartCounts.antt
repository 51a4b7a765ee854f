-- How many items have each tag, one item at a time.
use Rattle.std.proofs.Common.{◌≡◌, ℕ, zero, suc, ◌+◌, ◌<◌, ◌≤◌, ◌≢◌, Bool, true, false, List, [], ◌∷◌, replicate, length, take, set, get_or, add-one, refl, ap, sym, ◌∙◌, subst, arith}
use Rattle.std.specs.Prelude.{slice_index, nat_eq, nat_lt, if◌then◌else◌}
use Rattle.std.proofs.lemmas.Bool.{eq-eqb, eqb-true, ltb-true}
use Rattle.std.proofs.lemmas.List.{get_or-set_other, get_or-set_same, length-replicate}
use Rattle.std.proofs.Math.ListN.{length-set}
use Rattle.texts.proofs.Conjunction.{first, second}
use Rattle.tag_seq.specs.Tags.{are_below, count}

-- each tag of a list whose tags are below a number
pub below_at : (n : ℕ) (ts : List ℕ) (i : ℕ) → are_below n ts ≡ true → i < length ts → slice_index ts i < n
below_at n [] i b h = absurd (omega arith)
below_at n (t ∷ ts) zero b h = ltb-true t n (first (nat_lt t n) (are_below n ts) b)
below_at n (t ∷ ts) (suc i) b h = below_at n ts i (second (nat_lt t n) (are_below n ts) b) (omega arith)

-- one item more
more_items : (k : ℕ) (ts : List ℕ) (i : ℕ) → i < length ts → count k (take (suc i) ts) ≡ count k (take i ts) + (if nat_eq (slice_index ts i) k then 1 else 0)
more_items k [] i h = absurd (omega arith)
more_items k (t ∷ ts) zero h = omega arith
more_items k (t ∷ ts) (suc i) h = let rest = more_items k ts i (omega arith) in omega (arith, rest)

count_next : (k : ℕ) (ts : List ℕ) (i : ℕ) → i < length ts → count k (take (i + 1) ts) ≡ count k (take i ts) + (if nat_eq (slice_index ts i) k then 1 else 0)
count_next k ts i h = ap (λ z. count k (take z ts)) (add-one i) ∙ more_items k ts i h

one_at_most : (b : Bool) (n i : ℕ) → n ≤ i → (if b then 1 else 0) + n ≤ suc i
one_at_most true n i h = omega arith
one_at_most false n i h = omega arith

count_within : (k : ℕ) (ts : List ℕ) (i : ℕ) → count k (take i ts) ≤ i
count_within k ts zero = omega arith
count_within k [] (suc i) = omega arith
count_within k (t ∷ ts) (suc i) = one_at_most (nat_eq t k) (count k (take i ts)) i (count_within k ts i)

-- the counts of the first i items
pub record AreCounts (n : ℕ) (xs ts : List ℕ) (i : ℕ) : Type 0 where
  pub long : length xs ≡ n
  pub each : (k : ℕ) → k < n → get_or xs k 0 ≡ count k (take i ts)

pub counts_start : (n : ℕ) (ts : List ℕ) → (xs : List ℕ) → xs ≡ replicate n 0 → AreCounts n xs ts 0
counts_start n ts xs e = record { long = ap length e ∙ length-replicate n 0; each = λ k l. ap (λ z. get_or z k 0) e ∙ zeros n k }
  where
    zeros : (n k : ℕ) → get_or {A = ℕ} (replicate n 0) k 0 ≡ 0
    zeros zero k = refl
    zeros (suc n) zero = refl
    zeros (suc n) (suc k) = zeros n k

pub counts_kept : (n : ℕ) (xs ts : List ℕ) (i t c : ℕ) → i < length ts → t ≡ slice_index ts i → are_below n ts ≡ true → c ≡ get_or xs t 0 + 1 → AreCounts n xs ts i → AreCounts n (set xs t c) ts (i + 1)
counts_kept n xs ts i t c h e b f inv = record { long = length-set xs t c ∙ inv.long; each = λ k l. go k l (nat_eq (slice_index ts i) k) refl }
  where
    low : t < length xs
    low = let below = below_at n ts i b h in let long = inv.long in omega (arith, e, below, long)

    go : (k : ℕ) → k < n → (d : Bool) → nat_eq (slice_index ts i) k ≡ d → get_or (set xs t c) k 0 ≡ count k (take (i + 1) ts)
    go k l true d =
        let same : t ≡ k = e ∙ eqb-true (slice_index ts i) k d in
        let here : count k (take (i + 1) ts) ≡ count k (take i ts) + 1 = count_next k ts i h ∙ ap (λ z. count k (take i ts) + (if z then 1 else 0)) d in
        subst (λ z. get_or (set xs t c) z 0 ≡ c) same (get_or-set_same xs t c 0 low)
        ∙ (f ∙ (ap (λ z. get_or xs z 0 + 1) same ∙ (ap (λ z. z + 1) (inv.each k l) ∙ sym here)))
    go k l false d =
        let apart : k ≢ t = λ q. differ d (sym e ∙ sym q) in
        let here : count k (take (i + 1) ts) ≡ count k (take i ts) + 0 = count_next k ts i h ∙ ap (λ z. count k (take i ts) + (if z then 1 else 0)) d in
        get_or-set_other xs t k c 0 apart ∙ (inv.each k l ∙ (omega arith ∙ sym here))
      where
        differ : nat_eq (slice_index ts i) k ≡ false → slice_index ts i ≡ k → ⊥
        differ d q = let same = eq-eqb (slice_index ts i) k q in cc

pub counts_low : (n : ℕ) (xs ts : List ℕ) (i t : ℕ) → t < n → AreCounts n xs ts i → get_or xs t 0 ≤ i
counts_low n xs ts i t h inv = let same = inv.each t h in let low = count_within t ts i in omega (arith, same, low)

pub ruleset count_rules = (counts_start, counts_kept, counts_low, below_at)
