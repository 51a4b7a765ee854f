-- The origins of plans as runs of old places.
use Rattle.std.proofs.Common.{◌≡◌, ℕ, zero, suc, ◌+◌, ◌-◌, ◌≤◌, ◌<◌, List, [], ◌∷◌, ◌++◌, length, map, take, drop, replicate, refl, sym, ap, ◌∙◌, arith, append-nil}
use Rattle.std.specs.List.{range_with_len, insert, remove}
use Rattle.std.proofs.lemmas.List.{take-append-le, drop-append-le, append_assoc}
use Rattle.std.proofs.Math.Seq.{take-append-add, drop-append-add}
use Rattle.std.proofs.lemmas.List.FromFn.{length-map-range_with_len, take-map-range_with_len}
use mathlib.Core.Path.{subst}
use Rattle.hold_shapes.specs.declared.origins.Origin.{Origin}
use Rattle.hold_shapes.specs.declared.origins.Origin.TheVariants.{Old, Fresh}
use Rattle.hold_shapes.specs.Plans.{old_places, remove_part, move_part}
use Rattle.hold_shapes.specs.Runs.{all_origins}

-- n old places from k on
abbrev pub run : ℕ → ℕ → List Origin
run k n = map Old (range_with_len k n)

drop-run : (k n i : ℕ) → i ≤ n → drop i (run k n) ≡ run (k + i) (n - i)
drop-run k n zero h = let e : k + 0 ≡ k = omega arith in let z : n - 0 ≡ n = omega arith in rw (e, z) refl
drop-run k zero (suc i) h = absurd (omega arith)
drop-run k (suc n) (suc i) h =
    let e : k + suc i ≡ k + 1 + i = omega arith in let z : suc n - suc i ≡ n - i = omega arith in
    rw (e, z) (drop-run (k + 1) n i (omega arith))

take-run : (k n i : ℕ) → i ≤ n → take i (run k n) ≡ run k i
take-run k n i h = take-map-range_with_len Old k n i h

take-old : (n i : ℕ) → i ≤ n → take i (old_places n) ≡ run 0 i
take-old n i h = take-run 0 n i h

drop-old : (n i : ℕ) → i ≤ n → drop i (old_places n) ≡ run i (n - i)
drop-old n i h = let e : 0 + i ≡ i = omega arith in drop-run 0 n i h ∙ ap (λ k. run k (n - i)) e

pub old-runs : (n : ℕ) → all_origins (run 0 n ∷ []) ≡ old_places n
old-runs n = append-nil (run 0 n)

pub fresh-runs : (n c : ℕ) → all_origins (run 0 n ∷ replicate c Fresh ∷ []) ≡ old_places n ++ replicate c Fresh
fresh-runs n c = ap (λ os. run 0 n ++ os) (append-nil (replicate c Fresh))

pub with-runs : (n r : ℕ) → r ≤ n → all_origins (run 0 r ∷ replicate 1 Fresh ∷ run r (n - r) ∷ []) ≡ insert (old_places n) r Fresh
with-runs n r h = rw (take-old n r h, drop-old n r h, append-nil (run r (n - r))) refl

pub without-runs : (n a e : ℕ) → a ≤ e → e ≤ n → all_origins (run 0 a ∷ run e (n - e) ∷ []) ≡ remove_part a e (old_places n)
without-runs n a e h k = let l : a ≤ n = omega arith in rw (take-old n a l, drop-old n e k, append-nil (run e (n - e))) refl

pub without-one : (n p : ℕ) → remove_part p (p + 1) (old_places n) ≡ remove (old_places n) p
without-one n p = let e : p + 1 ≡ suc p = omega arith in rw e refl

part-run : (n a e : ℕ) → a ≤ e → e ≤ n → take (e - a) (drop a (old_places n)) ≡ run a (e - a)
part-run n a e h k = let l : a ≤ n = omega arith in rw (drop-old n a l) (take-run a (n - a) (e - a) (omega arith))

length-run : (k n : ℕ) → length (run k n) ≡ n
length-run k n = length-map-range_with_len Old k n

-- ---- the rest without the part from a to e

rest-take-back : (n a e t : ℕ) → t ≤ a → take t (run 0 a ++ run e (n - e)) ≡ run 0 t
rest-take-back n a e t h =
    let l : t ≤ length (run 0 a) = omega (arith, length-run 0 a) in
    take-append-le t (run 0 a) (run e (n - e)) l ∙ take-run 0 a t h

rest-drop-back : (n a e t : ℕ) → t ≤ a → drop t (run 0 a ++ run e (n - e)) ≡ run t (a - t) ++ run e (n - e)
rest-drop-back n a e t h =
    let l : t ≤ length (run 0 a) = omega (arith, length-run 0 a) in
    let z : 0 + t ≡ t = omega arith in
    drop-append-le t (run 0 a) (run e (n - e)) l ∙ ap (λ os. os ++ run e (n - e)) (drop-run 0 a t h ∙ ap (λ k. run k (a - t)) z)

rest-take-on : (n a e t : ℕ) → a ≤ t → t - a ≤ n - e → take t (run 0 a ++ run e (n - e)) ≡ run 0 a ++ run e (t - a)
rest-take-on n a e t h k =
    let s : length (run 0 a) + (t - a) ≡ t = omega (arith, length-run 0 a) in
    subst (λ i. take i (run 0 a ++ run e (n - e)) ≡ run 0 a ++ run e (t - a)) s
    (take-append-add (run 0 a) (run e (n - e)) (t - a) ∙ ap (λ os. run 0 a ++ os) (take-run e (n - e) (t - a) k))

rest-drop-on : (n a e t u : ℕ) → a ≤ t → t - a ≤ n - e → a ≤ e → t + (e - a) ≡ u → drop t (run 0 a ++ run e (n - e)) ≡ run u (n - u)
rest-drop-on n a e t u h k o z =
    let s : length (run 0 a) + (t - a) ≡ t = omega (arith, length-run 0 a) in
    let x : e + (t - a) ≡ u = omega arith in
    let y : n - e - (t - a) ≡ n - u = omega arith in
    subst (λ i. drop i (run 0 a ++ run e (n - e)) ≡ run u (n - u)) s
    (drop-append-add (run 0 a) (run e (n - e)) (t - a) ∙ drop-run e (n - e) (t - a) k ∙ ap (λ i. run i (n - e - (t - a))) x ∙ ap (run u) y)

rest-run : (n a e : ℕ) → a ≤ e → e ≤ n → remove_part a e (old_places n) ≡ run 0 a ++ run e (n - e)
rest-run n a e h k = let l : a ≤ n = omega arith in rw (take-old n a l, drop-old n e k) refl

pub moved-back : (n a e t : ℕ) → a ≤ e → e ≤ n → t ≤ a
    → all_origins (run 0 t ∷ run a (e - a) ∷ run t (a - t) ∷ run e (n - e) ∷ []) ≡ move_part a e t (old_places n)
moved-back n a e t h k l =
    rw (rest-run n a e h k, part-run n a e h k, rest-take-back n a e t l, rest-drop-back n a e t l, append-nil (run e (n - e))) refl

pub moved-on : (n a e t u : ℕ) → a ≤ e → e ≤ n → a < t → t + (e - a) ≡ u → u ≤ n
    → all_origins (run 0 a ∷ run e (t - a) ∷ run a (e - a) ∷ run u (n - u) ∷ []) ≡ move_part a e t (old_places n)
moved-on n a e t u h k l z m =
    let b : a ≤ t = omega arith in
    let c : t - a ≤ n - e = omega arith in
    rw (rest-run n a e h k, part-run n a e h k, rest-take-on n a e t b c, rest-drop-on n a e t u b c h z, append-nil (run u (n - u)))
    (sym (append_assoc (run 0 a) (run e (t - a)) (run a (e - a) ++ run u (n - u))))

pub moved-one : (n p t : ℕ) → p < n → move_part p (p + 1) t (old_places n) ≡ insert (remove (old_places n) p) t (Old p)
moved-one n p t h =
    let q : p ≤ p + 1 = omega arith in
    let l : p + 1 ≤ n = omega arith in
    let e : p + 1 - p ≡ 1 = omega arith in
    let one : take (p + 1 - p) (drop p (old_places n)) ≡ Old p ∷ [] = part-run n p (p + 1) q l ∙ ap (run p) e in
    rw (one, without-one n p) refl

pub ruleset plan_rules = (old-runs, fresh-runs, with-runs, without-runs, without-one, moved-back, moved-on, moved-one)
