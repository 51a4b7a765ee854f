-- What a search among depths says of the end of a node, of its children, and of the place of a child.
use Rattle.std.proofs.Common.{◌≡◌, ℕ, ◌+◌, ◌-◌, ◌<◌, ◌≤◌, suc, zero, Bool, true, false, List, [], ◌∷◌, length, drop, get_or, Option, Some, None, refl, sym, subst, ◌∙◌, ap, arith, inl, inr}
use Rattle.std.specs.Prelude.{if◌then◌else◌, nat_lt, nat_eq}
use Rattle.std.proofs.lemmas.Bool.{cases_eq, eq-eqb, ne_eqb, true≢false}
use Rattle.std.proofs.lemmas.List.{length-drop}
use Rattle.depth_seq.specs.declared.found.Found.{Found}
use Rattle.depth_seq.specs.declared.found.Found.TheVariants.{Child, End, Behind}
use Rattle.depth_seq.specs.Searches.{search}
use Rattle.hold_shapes.specs.Trees.{descendants, children_of, child_from, end_of, children, child}

-- ---- a search for a child that is not there

-- such a search ends behind the descendants, after all children; `all` is the number of depths that it can go over
abbrev Ends : ℕ → ℕ → ℕ → ℕ → ℕ → Found → Type 0
Ends at k below count all (Child p) = ⊥
Ends at k below count all (End p m) = (p ≡ at + below) × (m ≡ k + count)
Ends at k below count all (Behind m) = (below ≡ all) × (m ≡ k + count)

ends-child : (at k below count all : ℕ) (f : Found) → Ends (at + 1) (k + 1) below count all f → Ends at k (suc below) (suc count) (suc all) f
ends-child at k below count all (Child p) h = h
ends-child at k below count all (End p m) h = (omega (arith, h.0), omega (arith, h.1))
ends-child at k below count all (Behind m) h = (omega (arith, h.0), omega (arith, h.1))

ends-below : (at k below count all : ℕ) (f : Found) → Ends (at + 1) k below count all f → Ends at k (suc below) count (suc all) f
ends-below at k below count all (Child p) h = h
ends-below at k below count all (End p m) h = (omega (arith, h.0), h.1)
ends-below at k below count all (Behind m) h = (omega (arith, h.0), h.1)

ends_step : (t u v : Bool) (at k below count all : ℕ) (f g : Found) → v ≡ false → Ends (at + 1) (k + 1) below count all f → Ends (at + 1) k below count all g
    → Ends at k (if t then suc below else 0) (if t then (if u then suc count else count) else 0) (suc all)
    (if t then (if u then (if v then Child at else f) else g) else End at k)
ends_step true true true at k below count all f g z p q = absurd (true≢false z)
ends_step true true false at k below count all f g z p q = ends-child at k below count all f p
ends_step true false v at k below count all f g z p q = ends-below at k below count all g q
ends_step false u v at k below count all f g z p q = (omega arith, omega arith)

search_ends : (d n at k : ℕ) (es : List ℕ) → k + length es ≤ n → Ends at k (descendants d es) (children_of d es) (length es) (search d n at k es)
search_ends d n at k [] h = (refl, omega arith)
search_ends d n at k (e ∷ es) h =
    ends_step (nat_lt d e) (nat_eq e (d + 1)) (nat_eq k n) at k (descendants d es) (children_of d es) (length es)
    (search d n (at + 1) (k + 1) es) (search d n (at + 1) k es) (ne_eqb k n (λ z. omega arith))
    (search_ends d n (at + 1) (k + 1) es (omega arith)) (search_ends d n (at + 1) k es (omega arith))

ends_of : (d n at all : ℕ) (es : List ℕ) (f : Found) → length es ≡ all → all ≤ n → f ≡ search d n at 0 es → Ends at 0 (descendants d es) (children_of d es) all f
ends_of d n at all es f l h e =
    let few : 0 + length es ≤ n = omega arith in
    subst (λ m. Ends at 0 (descendants d es) (children_of d es) m f) l
    (subst (Ends at 0 (descendants d es) (children_of d es) (length es)) (sym e) (search_ends d n at 0 es few))

-- ---- a search for a child

abbrev child_of : Found → Option ℕ
child_of (Child p) = Some p
child_of (End p k) = None
child_of (Behind k) = None

child_step : (t u v w : Bool) (at k : ℕ) (f g : Found) (o p : Option ℕ) → v ≡ w → (w ≡ false → child_of f ≡ o) → child_of g ≡ p
    → child_of (if t then (if u then (if v then Child at else f) else g) else End at k)
    ≡ (if t then (if u then (if w then Some at else o) else p) else None)
child_step true true true true at k f g o p e x y = refl
child_step true true true false at k f g o p e x y = absurd (true≢false e)
child_step true true false true at k f g o p e x y = absurd (true≢false (sym e))
child_step true true false false at k f g o p e x y = x refl
child_step true false v w at k f g o p e x y = y
child_step false u v w at k f g o p e x y = refl

same_test : (n k i : ℕ) → n ≡ k + i → nat_eq k n ≡ nat_eq i 0
same_test n k i h =
    elim (cases_eq i 0) [
      | inl z ↦ eq-eqb k n (omega arith) ∙ sym (eq-eqb i 0 z)
      | inr z ↦ ne_eqb k n (λ e. z (omega arith)) ∙ sym (ne_eqb i 0 z)
    ]

positive : (i : ℕ) → nat_eq i 0 ≡ false → 0 < i
positive zero h = absurd (true≢false h)
positive (suc i) h = omega arith

search_child : (d n at k i : ℕ) (es : List ℕ) → n ≡ k + i → child_of (search d n at k es) ≡ child_from at d i es
search_child d n at k i [] h = refl
search_child d n at k i (e ∷ es) h =
    child_step (nat_lt d e) (nat_eq e (d + 1)) (nat_eq k n) (nat_eq i 0) at k (search d n (at + 1) (k + 1) es) (search d n (at + 1) k es)
    (child_from (at + 1) d (i - 1) es) (child_from (at + 1) d i es) (same_test n k i h)
    (λ z. search_child d n (at + 1) (k + 1) (i - 1) es (omega (arith, positive i z))) (search_child d n (at + 1) k i es h)

-- ---- a node of a tree, whose depth is d

module _ (ds : List ℕ) (at d i : ℕ) (same : d ≡ get_or ds at 0) (within : at < length ds) where
  found_end : (f : Found) → length ds ≤ i → f ≡ search d i (at + 1) 0 (drop (at + 1) ds)
      → Ends (at + 1) 0 (descendants (get_or ds at 0) (drop (at + 1) ds)) (children ds at) (length ds - (at + 1)) f
  found_end f h e =
      subst (λ m. Ends (at + 1) 0 (descendants m (drop (at + 1) ds)) (children_of m (drop (at + 1) ds)) (length ds - (at + 1)) f) same
      (ends_of d i (at + 1) (length ds - (at + 1)) (drop (at + 1) ds) f (length-drop (at + 1) ds) (omega arith) e)

  pub end-no_child : (q : ℕ) → length ds ≤ i → Child q ≡ search d i (at + 1) 0 (drop (at + 1) ds) → ⊥
  end-no_child q h e = found_end (Child q) h e

  pub end-found : (q m : ℕ) → length ds ≤ i → End q m ≡ search d i (at + 1) 0 (drop (at + 1) ds) → q ≡ end_of ds at
  end-found q m h e = (found_end (End q m) h e).0

  pub end-behind : (m : ℕ) → length ds ≤ i → Behind m ≡ search d i (at + 1) 0 (drop (at + 1) ds) → length ds ≡ end_of ds at
  end-behind m h e = omega (arith, (found_end (Behind m) h e).0)

  pub children-found : (q m : ℕ) → length ds ≤ i → End q m ≡ search d i (at + 1) 0 (drop (at + 1) ds) → m ≡ children ds at
  children-found q m h e = omega (arith, (found_end (End q m) h e).1)

  pub children-behind : (m : ℕ) → length ds ≤ i → Behind m ≡ search d i (at + 1) 0 (drop (at + 1) ds) → m ≡ children ds at
  children-behind m h e = omega (arith, (found_end (Behind m) h e).1)

  found_child : (f : Found) → f ≡ search d i (at + 1) 0 (drop (at + 1) ds) → child_of f ≡ child ds at i
  found_child f e =
      let number : i ≡ 0 + i = omega arith in
      subst (λ m. child_of f ≡ child_from (at + 1) m i (drop (at + 1) ds)) same (ap child_of e ∙ search_child d i (at + 1) 0 i (drop (at + 1) ds) number)

  pub child-found : (q : ℕ) → Child q ≡ search d i (at + 1) 0 (drop (at + 1) ds) → Some q ≡ child ds at i
  child-found q e = found_child (Child q) e

  pub child-end : (q m : ℕ) → End q m ≡ search d i (at + 1) 0 (drop (at + 1) ds) → None ≡ child ds at i
  child-end q m e = found_child (End q m) e

  pub child-behind : (m : ℕ) → Behind m ≡ search d i (at + 1) 0 (drop (at + 1) ds) → None ≡ child ds at i
  child-behind m e = found_child (Behind m) e

pub ruleset end_rules = (end-no_child, end-found, end-behind)

pub ruleset children_rules = (end-no_child, children-found, children-behind)

pub ruleset child_rules = (child-found, child-end, child-behind)
