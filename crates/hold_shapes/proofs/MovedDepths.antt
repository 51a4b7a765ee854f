-- A subtree hung below another node.
use Rattle.std.proofs.Common.{◌≡◌, ℕ, ◌+◌, ◌-◌, ◌<◌, ◌≤◌, Bool, true, false, ◌&&◌, List, [], ◌∷◌, length, take, drop, get_or, Result, Ok, Err, refl, sym, subst, arith}
use Rattle.std.specs.Prelude.{if◌then◌else◌, nat_le, slice_range}
use Rattle.std.proofs.lemmas.Bool.Decides.{nat_tests}
use Rattle.std.proofs.lemmas.List.{drop_more}
use Rattle.hold_shapes.specs.Trees.{is_valid, descendants, end_of}
use Rattle.hold_shapes.specs.Plans.{remove_part, insert_part, moved_depths, all_at_most, allowed_depths}
use Rattle.hold_shapes.specs.Causes.{PlanCause, Deep}
use Rattle.hold_shapes.proofs.ValidDepths.{GoesOn, Low, PutOk, Whole, put-whole, whole, valid, whole-out, end-ok, above-end, valid-some}
use Rattle.hold_shapes.proofs.ChildPlaces.{length-remove_part, block, goes-take, low, whole-from, front-length}

abbrev pub AtMost : ℕ → List ℕ → Type 0
AtMost n [] = Unit {0}
AtMost n (d ∷ ds) = (d ≤ n) × AtMost n ds

bounded : (d n : ℕ) (t : Bool) → (nat_le d n && t) ≡ true → (d ≤ n) × (t ≡ true)
bounded d n t h = grind (arith, nat_tests)

at-most : (n : ℕ) (ds : List ℕ) → all_at_most n ds ≡ true → AtMost n ds
at-most n [] h = tt
at-most n (d ∷ ds) h = let u = bounded d n (all_at_most n ds) h in (u.0, at-most n ds u.1)

moved_depths-goes : (a r x : ℕ) (cs : List ℕ) → GoesOn x cs → Low a cs → a ≤ x → AtMost 15 (moved_depths a r cs) → GoesOn (x - a + (r + 1)) (moved_depths a r cs)
moved_depths-goes a r x [] g l le m = tt
moved_depths-goes a r x (d ∷ ds) g l le m = (omega arith, omega arith, m.0, moved_depths-goes a r d ds g.3 l.1 l.0 m.1)

moved_depths-low : (a r : ℕ) (cs : List ℕ) → Low (r + 1) (moved_depths a r cs)
moved_depths-low a r [] = tt
moved_depths-low a r (d ∷ ds) = (omega arith, moved_depths-low a r ds)

hang-top : (a r : ℕ) (cs rest : List ℕ) (t : ℕ) → Whole rest → 0 < t → PutOk (r + 1) 0 rest t → GoesOn a cs → Low a cs
    → AtMost 15 (moved_depths a r (a ∷ cs)) → Whole (insert_part t (moved_depths a r (a ∷ cs)) rest)
hang-top a r cs rest t w lt ok g l m =
    let e : a - a + (r + 1) ≡ r + 1 = omega arith in
    let P : ℕ → Type 0 = λ d. Whole (insert_part t (d ∷ moved_depths a r cs) rest) in
    let Q : ℕ → Type 0 = λ d. GoesOn d (moved_depths a r cs) in
    subst P (sym e) (put-whole (r + 1) rest t (moved_depths a r cs) w lt ok (omega arith) (omega arith) (subst Q e (moved_depths-goes a r a cs g l (omega arith) m.1)) (moved_depths-low a r cs))

hang-block : (ds rest : List ℕ) (a r t : ℕ) → Whole ds → Whole rest → 0 < a → a < length ds → 0 < t → PutOk (r + 1) 0 rest t
    → AtMost 15 (moved_depths (get_or ds a 0) r (slice_range ds a (end_of ds a)))
    → Whole (insert_part t (moved_depths (get_or ds a 0) r (slice_range ds a (end_of ds a))) rest)
hang-block ds rest a r t w v lt h up ok m =
    let p = whole-from ds a lt h w in
    let b = block ds a h in
    let P : List ℕ → Type 0 = λ part. AtMost 15 (moved_depths (get_or ds a 0) r part) → Whole (insert_part t (moved_depths (get_or ds a 0) r part) rest) in
    let go : P (get_or ds a 0 ∷ take (descendants (get_or ds a 0) (drop (a + 1) ds)) (drop (a + 1) ds)) =
    hang-top (get_or ds a 0) r (take (descendants (get_or ds a 0) (drop (a + 1) ds)) (drop (a + 1) ds)) rest t v up ok
    (goes-take (get_or ds a 0) (drop (a + 1) ds) (descendants (get_or ds a 0) (drop (a + 1) ds)) p.2) (low (get_or ds a 0) (drop (a + 1) ds)) in
    subst P (sym b) go m

pub valid-hang : (ds : List ℕ) (a r : ℕ) → is_valid ds ≡ true → 0 < a → a < length ds → r < length (remove_part a (end_of ds a) ds)
    → all_at_most 15 (moved_depths (get_or ds a 0) (get_or (remove_part a (end_of ds a) ds) r 0) (slice_range ds a (end_of ds a))) ≡ true
    → is_valid (insert_part (end_of (remove_part a (end_of ds a) ds) r)
    (moved_depths (get_or ds a 0) (get_or (remove_part a (end_of ds a) ds) r 0) (slice_range ds a (end_of ds a))) (remove_part a (end_of ds a) ds)) ≡ true
valid-hang ds a r h up lt k m =
    let rest = remove_part a (end_of ds a) ds in
    let w = whole ds h in
    let above = above-end rest r in
    valid (insert_part (end_of rest r) (moved_depths (get_or ds a 0) (get_or rest r 0) (slice_range ds a (end_of ds a))) rest)
    (hang-block ds rest a (get_or rest r 0) (end_of rest r) w (whole-out ds a w up lt) up lt (omega arith) (end-ok 0 rest r k)
    (at-most 15 (moved_depths (get_or ds a 0) (get_or rest r 0) (slice_range ds a (end_of ds a))) m))

abbrev pub pick : Bool → List ℕ → Result (List ℕ) PlanCause
pick b xs = if b then Ok xs else Err Deep

allowed_depths-step : (b : Bool) (xs v : List ℕ) → pick b xs ≡ Ok v → (b ≡ true) × (v ≡ xs)
allowed_depths-step true xs v h = (refl, cc)
allowed_depths-step false xs v h = cc

pub valid-allowed_depths : (ds : List ℕ) (a r : ℕ) (v : List ℕ) → is_valid ds ≡ true → 0 < a → a < length ds → r < length (remove_part a (end_of ds a) ds)
    → allowed_depths (get_or ds a 0) (get_or (remove_part a (end_of ds a) ds) r 0) (slice_range ds a (end_of ds a)) ≡ Ok v
    → is_valid (insert_part (end_of (remove_part a (end_of ds a) ds) r) v (remove_part a (end_of ds a) ds)) ≡ true
valid-allowed_depths ds a r v h up lt k e =
    let rest = remove_part a (end_of ds a) ds in
    let xs = moved_depths (get_or ds a 0) (get_or rest r 0) (slice_range ds a (end_of ds a)) in
    let w = allowed_depths-step (all_at_most 15 xs) xs v e in
    let P : List ℕ → Type 0 = λ part. is_valid (insert_part (end_of rest r) part rest) ≡ true in
    subst P (sym w.1) (valid-hang ds a r h up lt k w.0)

pub ruleset hung_rules = (length-remove_part, valid-allowed_depths, valid-some, front-length)

-- ---- the loop over the depths of a subtree

refused : (a r d : ℕ) (ds : List ℕ) → nat_le (d - a + (r + 1)) 15 ≡ false → all_at_most 15 (moved_depths a r (d ∷ ds)) ≡ false
refused a r d ds e = rw e refl

passed : (a r d : ℕ) (ds : List ℕ) → nat_le (d - a + (r + 1)) 15 ≡ true → all_at_most 15 (moved_depths a r (d ∷ ds)) ≡ all_at_most 15 (moved_depths a r ds)
passed a r d ds e = rw e refl

pub depth-refused : (a r : ℕ) (ds : List ℕ) (i : ℕ) → i < length ds → nat_le (get_or ds i 0 - a + (r + 1)) 15 ≡ false
    → all_at_most 15 (moved_depths a r (drop i ds)) ≡ false
depth-refused a r ds i h e = rw (drop_more ds i 0 h) (refused a r (get_or ds i 0) (drop (i + 1) ds) e)

pub depth-passed : (a r : ℕ) (ds : List ℕ) (i : ℕ) → i < length ds → nat_le (get_or ds i 0 - a + (r + 1)) 15 ≡ true
    → all_at_most 15 (moved_depths a r (drop i ds)) ≡ all_at_most 15 (moved_depths a r (drop (i + 1) ds))
depth-passed a r ds i h e = rw (drop_more ds i 0 h) (passed a r (get_or ds i 0) (drop (i + 1) ds) e)

pub ruleset depth_rules = (depth-refused, depth-passed)
