-- Searches in parts of a list of depths, one after another, and what holds of where they end.
use Rattle.std.proofs.Common.{◌≡◌, ℕ, ◌+◌, ◌-◌, ◌<◌, ◌≤◌, Bool, true, false, List, [], ◌∷◌, ◌++◌, length, drop, get_or, length-append, refl, ap, sym, subst, ◌∙◌, arith}
use Rattle.std.proofs.lemmas.Bool.{eq-eqb, ne_eqb, lt-ltb, le-ltb}
use Rattle.std.proofs.lemmas.List.{drop_more, length-drop}
use Rattle.std.specs.Prelude.{nat_eq, nat_lt, if◌then◌else◌}
use Rattle.depth_seq.specs.declared.found.Found.{Found}
use Rattle.depth_seq.specs.declared.found.Found.TheVariants.{Child, End, Behind}
use Rattle.depth_seq.specs.Searches.{search, GoesOn, EndsBetween}

-- one depth: what ends the search, a depth of a child, and one that is further below
module _ (d n at k e : ℕ) (es : List ℕ) where
  pub search_end : e ≤ d → search d n at k (e ∷ es) ≡ End at k
  search_end h = rw (le-ltb d e h) refl

  pub search_child : e ≡ d + 1 → k ≡ n → search d n at k (e ∷ es) ≡ Child at
  search_child h z = let l : d < e = omega arith in rw (lt-ltb d e l, eq-eqb e (d + 1) h, eq-eqb k n z) refl

  pub search_past : e ≡ d + 1 → (k ≡ n → ⊥) → search d n at k (e ∷ es) ≡ search d n (at + 1) (k + 1) es
  search_past h z = let l : d < e = omega arith in rw (lt-ltb d e l, eq-eqb e (d + 1) h, ne_eqb k n z) refl

  pub search_below : d < e → (e ≡ d + 1 → ⊥) → search d n at k (e ∷ es) ≡ search d n (at + 1) k es
  search_below l h = rw (lt-ltb d e l, ne_eqb e (d + 1) h) refl

-- ---- a list, and another one behind it

-- where a search ends that ended so in a list, with ys behind it, from a place on
abbrev go_on : ℕ → ℕ → ℕ → List ℕ → Found → Found
go_on d n at ys (Child p) = Child p
go_on d n at ys (End p k) = End p k
go_on d n at ys (Behind k) = search d n at k ys

go_on_step : (d n at k m : ℕ) (ys : List ℕ) (t u v : Bool) (f g f' g' : Found) → f ≡ go_on d n m ys f' → g ≡ go_on d n m ys g'
    → (if t then (if u then (if v then Child at else f) else g) else End at k)
    ≡ go_on d n m ys (if t then (if u then (if v then Child at else f') else g') else End at k)
go_on_step d n at k m ys true true true f g f' g' p q = refl
go_on_step d n at k m ys true true false f g f' g' p q = p
go_on_step d n at k m ys true false v f g f' g' p q = q
go_on_step d n at k m ys false u v f g f' g' p q = refl

search-append : (d n at k m : ℕ) (xs ys : List ℕ) → m ≡ at + length xs → search d n at k (xs ++ ys) ≡ go_on d n m ys (search d n at k xs)
search-append d n at k m [] ys h = let e : at ≡ m = omega arith in ap (λ p. search d n p k ys) e
search-append d n at k m (x ∷ xs) ys h =
    let e : m ≡ at + 1 + length xs = omega arith in
    go_on_step d n at k m ys (nat_lt d x) (nat_eq x (d + 1)) (nat_eq k n)
    (search d n (at + 1) (k + 1) (xs ++ ys)) (search d n (at + 1) k (xs ++ ys)) (search d n (at + 1) (k + 1) xs) (search d n (at + 1) k xs)
    (search-append d n (at + 1) (k + 1) m xs ys e) (search-append d n (at + 1) k m xs ys e)

go_on-stopped : (d n at : ℕ) (ys : List ℕ) (f : Found) → ((j : ℕ) → f ≡ Behind j → ⊥) → go_on d n at ys f ≡ f
go_on-stopped d n at ys (Child p) h = refl
go_on-stopped d n at ys (End p k) h = refl
go_on-stopped d n at ys (Behind k) h = absurd (h k refl)

-- ---- a search in three parts: it ends in the first, in the second, or in the third

-- a search that ends in a list, or goes on behind it
pub ends_ahead : (d n at k : ℕ) (xs ys : List ℕ) (f : Found) → f ≡ search d n at k xs → ((j : ℕ) → f ≡ Behind j → ⊥) → f ≡ search d n at k (xs ++ ys)
ends_ahead d n at k xs ys f e h =
    sym (search-append d n at k (at + length xs) xs ys refl ∙ ap (go_on d n (at + length xs) ys) (sym e) ∙ go_on-stopped d n (at + length xs) ys f h)

pub goes_behind : (d n at k m j : ℕ) (xs ys : List ℕ) → Behind j ≡ search d n at k xs → m ≡ at + length xs → search d n m j ys ≡ search d n at k (xs ++ ys)
goes_behind d n at k m j xs ys e h = sym (search-append d n at k m xs ys h ∙ ap (go_on d n m ys) (sym e))

pub stopped : (f : Found) → ((j : ℕ) → f ≡ Behind j → ⊥) → GoesOn f → ⊥
stopped (Child p) h g = g
stopped (End p k) h g = g
stopped (Behind k) h g = h k refl

-- ---- numbers of what is found

earlier : (at m : ℕ) (f : Found) → EndsBetween (at + 1) m f → EndsBetween at m f
earlier at m (Child p) w = (omega (arith, w.0), w.1)
earlier at m (End p k) w = (omega (arith, w.0), w.1)
earlier at m (Behind k) w = tt

between_step : (at m k : ℕ) (t u v : Bool) (f g : Found) → at < m → EndsBetween (at + 1) m f → EndsBetween (at + 1) m g
    → EndsBetween at m (if t then (if u then (if v then Child at else f) else g) else End at k)
between_step at m k true true true f g l p q = (omega arith, l)
between_step at m k true true false f g l p q = earlier at m f p
between_step at m k true false v f g l p q = earlier at m g q
between_step at m k false u v f g l p q = (omega arith, l)

search_between : (d n at k m : ℕ) (xs : List ℕ) → m ≡ at + length xs → EndsBetween at m (search d n at k xs)
search_between d n at k m [] h = tt
search_between d n at k m (x ∷ xs) h =
    let e : m ≡ at + 1 + length xs = omega arith in
    between_step at m k (nat_lt d x) (nat_eq x (d + 1)) (nat_eq k n) (search d n (at + 1) (k + 1) xs) (search d n (at + 1) k xs) (omega arith)
    (search_between d n (at + 1) (k + 1) m xs e) (search_between d n (at + 1) k m xs e)

-- where a search among the depths from a place on ends
pub found_between : (d n from : ℕ) (xs : List ℕ) (f : Found) → from ≤ length xs → f ≡ search d n from 0 (drop from xs) → EndsBetween from (length xs) f
found_between d n from xs f h e =
    let m : length xs ≡ from + length (drop from xs) = omega (arith, length-drop from xs) in
    subst (EndsBetween from (length xs)) (sym e) (search_between d n from 0 (length xs) (drop from xs) m)

-- ---- one step of a search in a chunk, which is at depth number i of it behind k children

module _ (d n at k i : ℕ) (xs : List ℕ) (h : i < length xs) where
  step_at : (f : Found) → search d n (at + i) k (get_or xs i 0 ∷ drop (i + 1) xs) ≡ f → search d n (at + i) k (drop i xs) ≡ f
  step_at f e = ap (search d n (at + i) k) (drop_more xs i 0 h) ∙ e

  pub scan_end : get_or xs i 0 ≤ d → search d n (at + i) k (drop i xs) ≡ End (at + i) k
  scan_end l = step_at (End (at + i) k) (search_end d n (at + i) k (get_or xs i 0) (drop (i + 1) xs) l)

  pub scan_child : get_or xs i 0 ≡ d + 1 → k ≡ n → search d n (at + i) k (drop i xs) ≡ Child (at + i)
  scan_child e z = step_at (Child (at + i)) (search_child d n (at + i) k (get_or xs i 0) (drop (i + 1) xs) e z)

  pub scan_past : get_or xs i 0 ≡ d + 1 → (k ≡ n → ⊥) → search d n (at + i) k (drop i xs) ≡ search d n (at + (i + 1)) (k + 1) (drop (i + 1) xs)
  scan_past e z =
      let next : at + i + 1 ≡ at + (i + 1) = omega arith in
      step_at _ (search_past d n (at + i) k (get_or xs i 0) (drop (i + 1) xs) e z ∙ ap (λ p. search d n p (k + 1) (drop (i + 1) xs)) next)

  pub scan_below : d < get_or xs i 0 → (get_or xs i 0 ≡ d + 1 → ⊥) → search d n (at + i) k (drop i xs) ≡ search d n (at + (i + 1)) k (drop (i + 1) xs)
  scan_below l e =
      let next : at + i + 1 ≡ at + (i + 1) = omega arith in
      step_at _ (search_below d n (at + i) k (get_or xs i 0) (drop (i + 1) xs) l e ∙ ap (λ p. search d n p k (drop (i + 1) xs)) next)

pub ruleset walk_rules = (length-append, length-drop)

pub ruleset seq_rules = (found_between)
