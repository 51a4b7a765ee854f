-- No old place occurs twice.
use Rattle.std.proofs.Common.{◌≡◌, ℕ, ◌+◌, ◌<◌, ◌≤◌, suc, zero, Bool, true, false, cond, List, [], ◌∷◌, ◌++◌, map, replicate, Ok, refl, sym, subst, arith}
use Rattle.std.specs.Prelude.{nat_eq}
use Rattle.std.specs.List.{All, count_by, range_with_len}
use Rattle.std.specs.List.Sorted.{IsPermutation}
use Rattle.std.proofs.lemmas.Bool.Decides.{nat_tests}
use Rattle.std.proofs.lemmas.List.{append-nil, length-append, get_or_append_left}
use Rattle.std.proofs.lemmas.List.Elements.{All-nil, All-cons, All-append, All-replicate}
use Rattle.std.proofs.lemmas.List.Sums.{sum_by-cons, sum_by-append}
use Rattle.std.proofs.lemmas.List.Sorted.{All-permutation, sum_by-IsPermutation}
use Rattle.hold_shapes.specs.declared.shape.Shape.{Shape}
use Rattle.hold_shapes.specs.declared.origins.Origin.{Origin}
use Rattle.hold_shapes.specs.declared.origins.Origin.TheVariants.{Old, Fresh}
use Rattle.hold_shapes.specs.declared.edit.ShapeEdit.{ShapeEdit}
use Rattle.hold_shapes.specs.declared.edit.ShapeEdit.TheVariants.{Ins, Del, MoveItem, Reorder, PutKey, DropKey, RenameKey, Graft, Prune, Shift, Hang}
use Rattle.hold_shapes.specs.Gather.{IsBelow}
use Rattle.hold_shapes.specs.Shapes.{size_of}
use Rattle.hold_shapes.specs.Plans.{old_places, plan}
use Rattle.law_shapes.specs.Laws.{is_old, IsOnce, IsOld, KeepsAll, AddsNone, KeepsPlaces, Inserts, Deletes, Rearranges, IsArranged}
use Rattle.law_shapes.proofs.Lawful.{lawful}

-- ---- the old places themselves

abbrev pub one : ℕ → Origin → ℕ
one k o = cond (is_old k o) 1 0

count-cons : (k : ℕ) (o : Origin) (os : List Origin) → count_by (is_old k) (o ∷ os) ≡ one k o + count_by (is_old k) os
count-cons k o os = sum_by-cons (one k) o os

abbrev pub mark : Bool → ℕ
mark t = cond t 1 0

none-step : (t : Bool) (k a : ℕ) → nat_eq k a ≡ t → k < a → mark t ≡ 0
none-step true k a e h = absurd (let same : k ≡ a = grind (arith, nat_tests) in omega arith)
none-step false k a e h = refl

none : (k a n : ℕ) → k < a → count_by (is_old k) (map Old (range_with_len a n)) ≡ 0
none k a zero h = refl
none k a (suc n) h =
    let c = count-cons k (Old a) (map Old (range_with_len (a + 1) n)) in
    let l = none-step (nat_eq k a) k a refl h in
    let r = none k (a + 1) n (omega arith) in omega arith

single-step : (t : Bool) (k a m : ℕ) → nat_eq k a ≡ t → m ≤ 1 → (k < a + 1 → m ≡ 0) → mark t + m ≤ 1
single-step true k a m e h f =
    let same : k ≡ a = grind (arith, nat_tests) in let z = f (omega arith) in omega arith
single-step false k a m e h f = omega arith

single : (k a n : ℕ) → count_by (is_old k) (map Old (range_with_len a n)) ≤ 1
single k a zero = omega arith
single k a (suc n) =
    let c = count-cons k (Old a) (map Old (range_with_len (a + 1) n)) in
    let s = single-step (nat_eq k a) k a (count_by (is_old k) (map Old (range_with_len (a + 1) n))) refl (single k (a + 1) n) (λ h. none k (a + 1) n h) in
    omega arith

fresh : (k c : ℕ) → count_by (is_old k) (replicate c Fresh) ≡ 0
fresh k zero = refl
fresh k (suc c) = let e = count-cons k Fresh (replicate c Fresh) in let f = fresh k c in omega arith

low : (n a m : ℕ) → a + m ≤ n → All (IsBelow n) (map Old (range_with_len a m))
low n a zero h = All-nil (IsBelow n)
low n a (suc m) h = All-cons (IsBelow n) (Old a) (map Old (range_with_len (a + 1) m)) (omega arith) (low n (a + 1) m (omega arith))

-- ---- and in another order

from-order : (n c : ℕ) (from lost : List Origin) → IsPermutation (old_places n ++ replicate c Fresh) (from ++ lost) → IsOnce n from
from-order n c from lost h =
    let all : All (IsBelow n) (from ++ lost) = All-permutation (IsBelow n) (old_places n ++ replicate c Fresh) (from ++ lost) h
    (All-append (IsBelow n) (old_places n) (replicate c Fresh) (low n 0 n (omega arith)) (All-replicate (IsBelow n) c Fresh tt)) in (
      (λ k d lt. let P : Origin → Type 0 = λ o. IsBelow n o in
          subst P (get_or_append_left from lost d k lt) (all k d (let l = length-append from lost in omega arith))),
      (λ k.
          let s = sum_by-IsPermutation (one k) (old_places n ++ replicate c Fresh) (from ++ lost) h in
          let a = sum_by-append (one k) from lost in
          let b = sum_by-append (one k) (old_places n) (replicate c Fresh) in
          let x = single k 0 n in
          let y = fresh k c in
          omega arith),
    )

of-inserts : (n : ℕ) (from : List Origin) → Inserts n from → IsOnce n from
of-inserts n from h =
    let P : List Origin → Type 0 = λ os. IsPermutation (old_places n ++ replicate h.0 Fresh) os in
    from-order n h.0 from [] (subst P (sym (append-nil from)) h.1)

of-deletes : (n : ℕ) (from : List Origin) → Deletes n from → IsOnce n from
of-deletes n from h =
    let P : List Origin → Type 0 = λ os. IsPermutation os (from ++ h.0) in
    from-order n 0 from h.0 (subst P (sym (append-nil (old_places n))) h.1)

of-rearranges : (n : ℕ) (from : List Origin) → Rearranges n from → IsOnce n from
of-rearranges n from h =
    let P : List Origin → Type 0 = λ os. IsPermutation (old_places n) os in
    of-deletes n from ([], subst P (sym (append-nil from)) h)

of-law : (e : ShapeEdit) (n : ℕ) (from : List Origin) → IsArranged e n from → IsOnce n from
of-law (Ins c) n from h = of-inserts n from h
of-law (Del c) n from h = of-deletes n from h
of-law (MoveItem i j) n from h = of-rearranges n from h
of-law (Reorder f) n from h = of-rearranges n from h
of-law (PutKey k) n from h = of-inserts n from h
of-law (DropKey k) n from h = of-deletes n from h
of-law (RenameKey k m) n from h = of-rearranges n from h
of-law (Graft q) n from h = of-inserts n from h
of-law (Prune q) n from h = of-deletes n from h
of-law (Shift q i j) n from h = of-rearranges n from h
of-law (Hang p q) n from h = of-rearranges n from h

pub once : (s : Shape) (e : ShapeEdit) (t : Shape) (from : List Origin) → plan s e ≡ Ok (t, from) → IsOnce (size_of s) from
once s e t from h = of-law e (size_of s) from (lawful s e t from h)

-- ---- each exactly once, and none fresh

first-step : (t : Bool) (k a m : ℕ) → nat_eq k a ≡ t → a ≤ k → (k < a + 1 → m ≡ 0) → (a + 1 ≤ k → m ≡ 1) → mark t + m ≡ 1
first-step true k a m e h f g =
    let same : k ≡ a = grind (arith, nat_tests) in let z = f (omega arith) in omega arith
first-step false k a m e h f g = let far : a + 1 ≤ k = grind (arith, nat_tests) in let z = g far in omega arith

exactly : (k a n : ℕ) → a ≤ k → k < a + n → count_by (is_old k) (map Old (range_with_len a n)) ≡ 1
exactly k a zero h lt = absurd (omega arith)
exactly k a (suc n) h lt =
    let c = count-cons k (Old a) (map Old (range_with_len (a + 1) n)) in
    let s = first-step (nat_eq k a) k a (count_by (is_old k) (map Old (range_with_len (a + 1) n))) refl h (λ l. none k (a + 1) n l) (λ l. exactly k (a + 1) n l (omega arith)) in
    omega arith

keeps-all : (n : ℕ) (from : List Origin) → Inserts n from → KeepsAll n from
keeps-all n from h = λ k lt.
    let s = sum_by-IsPermutation (one k) (old_places n ++ replicate h.0 Fresh) from h.1 in
    let b = sum_by-append (one k) (old_places n) (replicate h.0 Fresh) in
    let x = exactly k 0 n (omega arith) (omega arith) in
    let y = fresh k h.0 in
    omega arith

none-fresh : (a n : ℕ) → All IsOld (map Old (range_with_len a n))
none-fresh a zero = All-nil IsOld
none-fresh a (suc n) = All-cons IsOld (Old a) (map Old (range_with_len (a + 1) n)) tt (none-fresh (a + 1) n)

adds-none : (n : ℕ) (from : List Origin) → Deletes n from → AddsNone from
adds-none n from h =
    let all : All IsOld (from ++ h.0) = All-permutation IsOld (old_places n) (from ++ h.0) h.1 (none-fresh 0 n) in
    λ k d lt. let P : Origin → Type 0 = λ o. IsOld o in
    subst P (get_or_append_left from h.0 d k lt) (all k d (let l = length-append from h.0 in omega arith))

does-both : (n : ℕ) (from : List Origin) → Rearranges n from → KeepsAll n from × AddsNone from
does-both n from h =
    let P : List Origin → Type 0 = λ os. IsPermutation (old_places n) os in
    let Q : List Origin → Type 0 = λ os. IsPermutation os from in
    (keeps-all n from (0, subst Q (sym (append-nil (old_places n))) h), adds-none n from ([], subst P (sym (append-nil from)) h))

keeps-places : (e : ShapeEdit) (n : ℕ) (from : List Origin) → IsArranged e n from → KeepsPlaces e n from
keeps-places (Ins c) n from h = keeps-all n from h
keeps-places (Del c) n from h = adds-none n from h
keeps-places (MoveItem i j) n from h = does-both n from h
keeps-places (Reorder f) n from h = does-both n from h
keeps-places (PutKey k) n from h = keeps-all n from h
keeps-places (DropKey k) n from h = adds-none n from h
keeps-places (RenameKey k m) n from h = does-both n from h
keeps-places (Graft q) n from h = keeps-all n from h
keeps-places (Prune q) n from h = adds-none n from h
keeps-places (Shift q i j) n from h = does-both n from h
keeps-places (Hang p q) n from h = does-both n from h

pub kept : (s : Shape) (e : ShapeEdit) (t : Shape) (from : List Origin) → plan s e ≡ Ok (t, from) → KeepsPlaces e (size_of s) from
kept s e t from h = keeps-places e (size_of s) from (lawful s e t from h)
