-- The payloads that are kept, as a loop goes over all.
use Rattle.std.proofs.Common.{◌≡◌, ℕ, suc, ◌+◌, ◌-◌, ◌<◌, add-one, Bool, true, false, ◌||◌, cond, List, [], ◌∷◌}
use Rattle.std.proofs.Common.{◌++◌, append_assoc, length, drop, drop-cons, get_or, refl, sym, ap, ◌∙◌, arith}
use Rattle.std.proofs.lemmas.Bool.{ltb-false, ltb-true}
use Rattle.std.specs.Prelude.{nat_lt}
use Rattle.hub_copy.specs.KeptRecords.{adds_view, kept_records}

-- the others, behind a payload that may be kept
abbrev if_kept : Bool → List ℕ → List (List ℕ) → List (List ℕ)
if_kept b p ps = cond b (p ∷ ps) ps

-- from one payload to the next there is one fewer to keep, whatever it is
module _ (p : List ℕ) (ps : List (List ℕ)) where
  by_count : (m k : ℕ) (b : Bool) → (b ≡ true → m ≡ suc k) → (b ≡ false → (m ≡ 0) × (k ≡ 0))
      → kept_records m (p ∷ ps) ≡ if_kept (b || adds_view p) p (kept_records k ps)
  by_count m k true first later = ap (λ n. kept_records n (p ∷ ps)) (first refl)
  by_count m k false first later =
      let none = later refl in
      ap (λ n. kept_records n (p ∷ ps)) none.0
      ∙ ap (λ n. if_kept (adds_view p) p (kept_records n ps)) (sym none.1)

  before : (number i : ℕ) → nat_lt i number ≡ true → number - i ≡ suc (number - suc i)
  before number i is = omega (arith, ltb-true i number is)

  behind : (number i : ℕ) → nat_lt i number ≡ false → (number - i ≡ 0) × (number - suc i ≡ 0)
  behind number i is = (omega (arith, ltb-false i number is), omega (arith, ltb-false i number is))

  counted : (number i : ℕ) (b : Bool) → nat_lt i number ≡ b
      → kept_records (number - i) (p ∷ ps) ≡ if_kept (b || adds_view p) p (kept_records (number - suc i) ps)
  counted number i b is =
      by_count (number - i) (number - suc i) b (λ e. before number i (is ∙ e)) (λ e. behind number i (is ∙ e))

module _ (number i : ℕ) (ps kept all : List (List ℕ)) (p : List ℕ) (within : i < length ps) (is : p ≡ get_or ps i p)
    (so_far : kept ++ kept_records (number - i) (drop i ps) ≡ all) where
  -- what is kept of the payloads that are left, by whether the next one stays
  next : kept ++ if_kept (nat_lt i number || adds_view p) p (kept_records (number - (i + 1)) (drop (i + 1) ps)) ≡ all
  next =
      let left : drop i ps ≡ p ∷ drop (suc i) ps =
      drop-cons ps i p within ∙ ap (λ (q : List ℕ). q ∷ drop (suc i) ps) (sym is) in
      rw (add-one i)
      (ap (λ qs. kept ++ qs)
      (sym (ap (kept_records (number - i)) left ∙ counted p (drop (suc i) ps) number i (nat_lt i number) refl)) ∙ so_far)

  pub next_kept : (b : Bool) → b ≡ (nat_lt i number || adds_view p) → b ≡ true
      → (kept ++ p ∷ []) ++ kept_records (number - (i + 1)) (drop (i + 1) ps) ≡ all
  next_kept b test stays =
      append_assoc kept (p ∷ []) (kept_records (number - (i + 1)) (drop (i + 1) ps))
      ∙ ap (λ c. kept ++ if_kept c p (kept_records (number - (i + 1)) (drop (i + 1) ps))) (sym (sym test ∙ stays))
      ∙ next

  pub next_left : (b : Bool) → b ≡ (nat_lt i number || adds_view p) → b ≡ false
      → kept ++ kept_records (number - (i + 1)) (drop (i + 1) ps) ≡ all
  next_left b test goes =
      ap (λ c. kept ++ if_kept c p (kept_records (number - (i + 1)) (drop (i + 1) ps))) (sym (sym test ∙ goes))
      ∙ next

pub ruleset kept_rules = (next_kept, next_left)
