-- Parts of a list of depths that a search passes by, since what is kept of them says that it goes on behind them.
use Rattle.std.proofs.Common.{◌≡◌, ℕ, ◌+◌, ◌-◌, ◌<◌, ◌≤◌, List, [], ◌∷◌, length, refl, ap, subst, ◌∙◌, arith, inl, inr}
use Rattle.std.proofs.lemmas.Bool.{cases_eq, cases_lt}
use Rattle.depth_seq.specs.declared.found.Found.TheVariants.{Behind}
use Rattle.depth_seq.specs.declared.sum.Sum.{Sum}
use Rattle.depth_seq.specs.Searches.{search, GoesOn}
use Rattle.depth_seq.specs.Sums.{count, AreAtLeast, AreSums}
use Rattle.depth_seq.proofs.Sums.{count-here, count-other, count-below}
use Rattle.depth_seq.proofs.Searches.{search_end, search_child, search_past, search_below}

-- all depths are further below the node than its children
skip_below : (d n at k l : ℕ) (xs : List ℕ) → d + 1 < l → AreAtLeast l xs → search d n at k xs ≡ Behind k
skip_below d n at k l [] h a = refl
skip_below d n at k l (x ∷ xs) h a =
    search_below d n at k x xs (omega (arith, a.0)) (λ e. omega (arith, a.0)) ∙ skip_below d n (at + 1) k l xs h a.1

-- all depths are below the node, and there are few children
skip_children : (d n at k m : ℕ) (xs : List ℕ) → AreAtLeast (d + 1) xs → m ≡ k + count (d + 1) xs → m ≤ n → search d n at k xs ≡ Behind m
skip_children d n at k m [] a s h = ap Behind (omega arith)
skip_children d n at k m (x ∷ xs) a s h =
    elim (cases_eq x (d + 1)) [
      | inl e ↦
          let c = count-here (d + 1) x xs e in
          search_past d n at k x xs e (omega (arith, c)) ∙ skip_children d n (at + 1) (k + 1) m xs a.1 (omega (arith, c)) h
      | inr e ↦
          let c = count-other (d + 1) x xs e in
          search_below d n at k x xs (omega (arith, a.0)) e ∙ skip_children d n (at + 1) k m xs a.1 (omega (arith, c)) h
    ]

-- where a search goes on, all depths are below the node, and there are few children
gone_on : (d n at k : ℕ) (xs : List ℕ) → k ≤ n → GoesOn (search d n at k xs) → AreAtLeast (d + 1) xs × (k + count (d + 1) xs ≤ n)
gone_on d n at k [] l g = (tt, omega arith)
gone_on d n at k (x ∷ xs) l g =
    elim (cases_lt d x) [
      | inr h ↦ absurd (subst GoesOn (search_end d n at k x xs h) g)
      | inl h ↦ elim (cases_eq x (d + 1)) [
        | inr e ↦
            let r = gone_on d n (at + 1) k xs l (subst GoesOn (search_below d n at k x xs h e) g) in
            let c = count-other (d + 1) x xs e in
            ((omega arith, r.0), omega (arith, c, r.1))
        | inl e ↦ elim (cases_eq k n) [
          | inl z ↦ absurd (subst GoesOn (search_child d n at k x xs e z) g)
          | inr z ↦
              let r = gone_on d n (at + 1) (k + 1) xs (omega arith) (subst GoesOn (search_past d n at k x xs e z) g) in
              let c = count-here (d + 1) x xs e in
              ((omega arith, r.0), omega (arith, c, r.1))
        ]
      ]
    ]

-- a search comes behind k children to a part, of which these sums are kept
module _ (s : Sum) (d n at k : ℕ) (ds : List ℕ) (a : AreSums s ds) where
  pub passes_none : s.size ≡ 0 → search d n at k ds ≡ Behind k
  passes_none e = nothing ds (omega (arith, a.all))
    where
      nothing : (xs : List ℕ) → length xs ≡ 0 → search d n at k xs ≡ Behind k
      nothing [] z = refl
      nothing (x ∷ xs) z = absurd (omega arith)

  pub passes_below : d + 1 < s.least → search d n at k ds ≡ Behind k
  passes_below h = skip_below d n at k s.least ds h a.bound

  pub passes_children : s.least ≡ d + 1 → s.leasts ≤ n - k → k ≤ n → search d n at k ds ≡ Behind (k + s.leasts)
  passes_children e l z =
      skip_children d n at k (k + s.leasts) ds (subst (λ m. AreAtLeast m ds) e a.bound) (omega (arith, a.number, ap (λ m. count m ds) e)) (omega arith)

  pub stops_at_end : 0 < s.size → s.least ≤ d → k ≤ n → GoesOn (search d n at k ds) → ⊥
  stops_at_end z l h g =
      let r = gone_on d n at k ds h g in
      omega (arith, a.number, a.occurs z, count-below s.least (d + 1) ds (omega arith) r.0)

  pub stops_at_child : s.least ≡ d + 1 → n - k < s.leasts → k ≤ n → GoesOn (search d n at k ds) → ⊥
  stops_at_child e l h g =
      let r = gone_on d n at k ds h g in
      omega (arith, a.number, r.1, ap (λ m. count m ds) e)
