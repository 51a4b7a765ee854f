-- What is carried of the edits of lists.
use Rattle.std.proofs.Common.{◌≡◌, ℕ, zero, suc, ◌+◌, ◌-◌, ◌≤◌, ◌<◌, Bool, true, false, List, [], ◌∷◌, ◌++◌, length, map, take, drop, replicate, Option, Some, None, refl, sym, ap, ◌∙◌, arith, subst, ◌⊎◌, inl, inr}
use Rattle.std.specs.Prelude.{if◌then◌else◌, ◌&&◌, nat_eq, nat_lt, nat_le, slice_get, option_map}
use Rattle.std.specs.List.{range_with_len, insert, remove}
use Rattle.std.proofs.lemmas.List.{length-map, length-append, length-replicate}
use Rattle.std.proofs.lemmas.Bool.Decides.{nat_tests}
use Rattle.hold_shapes.specs.declared.edit.ShapeEdit.{ShapeEdit}
use Rattle.hold_shapes.specs.declared.edit.ShapeEdit.TheVariants.{Ins, Del, MoveItem, Reorder}
use Rattle.hold_shapes.specs.Plans.{is_count, is_each_new}
use Rattle.hold_shapes.specs.declared.lists.TheConstants.{MOST_ITEMS}
use Rattle.bridge_links.specs.declared.link.Link.{Link}
use Rattle.bridge_links.specs.declared.link.Link.TheVariants.{Stays, Moved, Gone, Missed}
use Rattle.bridge_links.specs.Links.{same_places, mover, moved_place, place_of, place_of_some, far_at, link_at, first_stay, content_of, gathered, far_planned, near_planned, fresh_count}
use Rattle.bridge_links.specs.Spans.{AreApart, AreFree, AreFresh, Spans}
use Rattle.bridge_links.proofs.Planned.{far-spans, near-spans, planned-twice, near-length}
use Rattle.bridge_lists.specs.Carried.{Carried, behind, place_below, far_place, move_edit, longer, carried_ins, put_at, gap_before, gap_for, moved_to, moved_from, carried_move}
use Rattle.bridge_lists.specs.Carried.{park_edits, park_links, park_free, parked, del_edit, shortened, carried_del, far_order, order_edit, ordered, carried_reorder}
use Rattle.bridge_lists.specs.Laws.{edited, all_edited, Carries}
use Rattle.bridge_lists.proofs.Plans.{ins-edited, ins-all, del-edited, del-all, move-edited, move-all, all-behind, size-same, size-longer, size-moved, gathered-there, length-remove, order-edited, gathered-moved, order-all}
use Rattle.bridge_lists.proofs.FarOrders.{linked-place, order-once, order-size, order-apart, no-fresh-order}

-- ---- plans that lead to no place twice

-- the links of a part of a shape to itself
pub same-at : (k n x y : ℕ) → far_at (map Stays (range_with_len k n)) x ≡ Some y → y ≡ k + x
same-at k zero x y h = absurd cc
same-at k (suc n) zero y h = let e : k ≡ y = cc in omega arith
same-at k (suc n) (suc x) y h = let w = same-at (k + 1) n x y h in omega arith

pub same-apart : (n : ℕ) → AreApart (same_places n)
same-apart n x z y h k = let a = same-at 0 n x y h in let b = same-at 0 n z y k in omega arith

no-fresh-range : (k n : ℕ) → fresh_count (map Stays (range_with_len k n)) ≡ 0
no-fresh-range k zero = refl
no-fresh-range k (suc n) = no-fresh-range (k + 1) n

fresh-behind-range : (k n c : ℕ) → fresh_count (map Stays (range_with_len k n) ++ replicate c Gone) ≡ c
fresh-behind-range k zero c = all-gone c
  where
    all-gone : (c : ℕ) → fresh_count (replicate c Gone) ≡ c
    all-gone zero = refl
    all-gone (suc c) = let w = all-gone c in omega arith
fresh-behind-range k (suc n) c = fresh-behind-range (k + 1) n c

gone-at : (c d y : ℕ) → far_at (replicate c Gone) d ≡ Some y → ⊥
gone-at zero d y h = cc
gone-at (suc c) zero y h = cc
gone-at (suc c) (suc d) y h = gone-at c d y h

longer-at : (k n c x y : ℕ) → far_at (map Stays (range_with_len k n) ++ replicate c Gone) x ≡ Some y → y ≡ k + x
longer-at k zero c x y h = absurd (gone-at c x y h)
longer-at k (suc n) c zero y h = let e : k ≡ y = cc in omega arith
longer-at k (suc n) c (suc x) y h = let w = longer-at (k + 1) n c x y h in omega arith

longer-apart : (n c : ℕ) → AreApart (longer n c)
longer-apart n c x z y h k = let a = longer-at 0 n c x y h in let b = longer-at 0 n c z y k in omega arith

gone-there : (c d : ℕ) → d < c → slice_get (replicate c Gone) d ≡ Some Gone
gone-there zero d h = absurd (omega arith)
gone-there (suc c) zero h = refl
gone-there (suc c) (suc d) h = gone-there c d (omega arith)

longer-there : (k n c d : ℕ) → d < c → slice_get (map Stays (range_with_len k n) ++ replicate c Gone) (n + d) ≡ Some Gone
longer-there k zero c d h = let e : 0 + d ≡ d = omega arith in rw e (gone-there c d h)
longer-there k (suc n) c d h = let e : suc n + d ≡ suc (n + d) = omega arith in rw e (longer-there (k + 1) n c d h)

longer-fresh : (n m c : ℕ) → AreFresh m (longer n c) (longer m c)
longer-fresh n m c d h = let e = fresh-behind-range 0 n c in longer-there 0 m c d (omega arith)

-- where a place of the plan that moves one is from
data From (i j x y : ℕ) : Type 0 where
  low : x < j → x < i → y ≡ x → From i j x y
  low-on : x < j → i ≤ x → y ≡ x + 1 → From i j x y
  here : x ≡ j → y ≡ i → From i j x y
  high : j < x → x ≤ i → y + 1 ≡ x → From i j x y
  high-on : j < x → i < x → y ≡ x → From i j x y

taken-out : (k n i x y : ℕ) → far_at (remove (map Stays (range_with_len k n)) i) x ≡ Some y → ((x < i) × (y ≡ k + x)) ⊎ ((i ≤ x) × (y ≡ k + x + 1))
taken-out k zero zero x y h = absurd cc
taken-out k zero (suc i) x y h = absurd cc
taken-out k (suc n) zero x y h = let w = same-at (k + 1) n x y h in inr (omega arith, omega arith)
taken-out k (suc n) (suc i) zero y h = let e : k ≡ y = cc in inl (omega arith, omega arith)
taken-out k (suc n) (suc i) (suc x) y h = one-on (taken-out (k + 1) n i x y h)
  where
    one-on : ((x < i) × (y ≡ k + 1 + x)) ⊎ ((i ≤ x) × (y ≡ k + 1 + x + 1)) → ((suc x < suc i) × (y ≡ k + suc x)) ⊎ ((suc i ≤ suc x) × (y ≡ k + suc x + 1))
    one-on (inl p) = inl (let a = p.0 in omega arith, let b = p.1 in omega arith)
    one-on (inr p) = inr (let a = p.0 in omega arith, let b = p.1 in omega arith)

-- a place of a list with one more
put-in : (ls : List Link) (l : Link) (j x y : ℕ) → j ≤ length ls → far_at (insert ls j l) x ≡ Some y
    → ((x < j) × (far_at ls x ≡ Some y)) ⊎ (((x ≡ j) × (place_of l ≡ Some y)) ⊎ ((j < x) × (far_at ls (x - 1) ≡ Some y)))
put-in ls l zero zero y q h = inr (inl (refl, h))
put-in ls l zero (suc x) y q h = let e : suc x - 1 ≡ x = omega arith in inr (inr (omega arith, rw e h))
put-in [] l (suc j) x y q h = absurd (omega arith)
put-in (k ∷ ls) l (suc j) zero y q h = inl (omega arith, h)
put-in (k ∷ ls) l (suc j) (suc x) y q h = one-on (put-in ls l j x y (omega arith) h)
  where
    back-on : (x : ℕ) → j < x → far_at ls (x - 1) ≡ Some y → far_at (k ∷ ls) (suc x - 1) ≡ Some y
    back-on zero p g = absurd (omega arith)
    back-on (suc x) p g = let e : suc x - 1 ≡ x = omega arith in let z : suc (suc x) - 1 ≡ suc x = omega arith in rw z (subst (λ i. far_at ls i ≡ Some y) e g)

    one-on : ((x < j) × (far_at ls x ≡ Some y)) ⊎ (((x ≡ j) × (place_of l ≡ Some y)) ⊎ ((j < x) × (far_at ls (x - 1) ≡ Some y)))
        → ((suc x < suc j) × (far_at (k ∷ ls) (suc x) ≡ Some y)) ⊎ (((suc x ≡ suc j) × (place_of l ≡ Some y)) ⊎ ((suc j < suc x) × (far_at (k ∷ ls) (suc x - 1) ≡ Some y)))
    one-on (inl p) = inl (let a = p.0 in omega arith, p.1)
    one-on (inr (inl p)) = inr (inl (ap suc p.0, p.1))
    one-on (inr (inr p)) = inr (inr (let a = p.0 in omega arith, back-on x p.0 p.1))

mover-place : (i j y : ℕ) → place_of (mover i j) ≡ Some y → y ≡ i
mover-place i j y h = of-test (nat_eq i j) h
  where
    of-test : (b : Bool) → place_of (if b then Stays i else Moved i) ≡ Some y → y ≡ i
    of-test true g = let e : i ≡ y = cc in sym e
    of-test false g = let e : i ≡ y = cc in sym e

moved-from : (n i j x y : ℕ) → i < n → j < n → far_at (moved_place n i j) x ≡ Some y → From i j x y
moved-from n i j x y p q h = of-place (put-in (remove (same_places n) i) (mover i j) j x y room h)
  where
    room : j ≤ length (remove (same_places n) i)
    room = let s = size-same n in let r = length-remove (same_places n) i (omega arith) in omega arith

    of-low : x < j → ((x < i) × (y ≡ 0 + x)) ⊎ ((i ≤ x) × (y ≡ 0 + x + 1)) → From i j x y
    of-low a (inl b) = low a b.0 (let e = b.1 in omega arith)
    of-low a (inr b) = low-on a b.0 (let e = b.1 in omega arith)

    of-high : j < x → ((x - 1 < i) × (y ≡ 0 + (x - 1))) ⊎ ((i ≤ x - 1) × (y ≡ 0 + (x - 1) + 1)) → From i j x y
    of-high a (inl b) = high a (let c = b.0 in omega arith) (let e = b.1 in omega arith)
    of-high a (inr b) = high-on a (let c = b.0 in omega arith) (let e = b.1 in omega arith)

    of-place : ((x < j) × (far_at (remove (same_places n) i) x ≡ Some y)) ⊎ (((x ≡ j) × (place_of (mover i j) ≡ Some y)) ⊎ ((j < x) × (far_at (remove (same_places n) i) (x - 1) ≡ Some y))) → From i j x y
    of-place (inl a) = of-low a.0 (taken-out 0 n i x y a.1)
    of-place (inr (inl a)) = here a.0 (mover-place i j y a.1)
    of-place (inr (inr a)) = of-high a.0 (taken-out 0 n i (x - 1) y a.1)

from-one : (i j x z y : ℕ) → From i j x y → From i j z y → x ≡ z
from-one i j x z y (low a b c) (low d e f) = omega arith
from-one i j x z y (low a b c) (low-on d e f) = omega arith
from-one i j x z y (low a b c) (here d e) = omega arith
from-one i j x z y (low a b c) (high d e f) = omega arith
from-one i j x z y (low a b c) (high-on d e f) = omega arith
from-one i j x z y (low-on a b c) (low d e f) = omega arith
from-one i j x z y (low-on a b c) (low-on d e f) = omega arith
from-one i j x z y (low-on a b c) (here d e) = omega arith
from-one i j x z y (low-on a b c) (high d e f) = omega arith
from-one i j x z y (low-on a b c) (high-on d e f) = omega arith
from-one i j x z y (here a b) (low d e f) = omega arith
from-one i j x z y (here a b) (low-on d e f) = omega arith
from-one i j x z y (here a b) (here d e) = omega arith
from-one i j x z y (here a b) (high d e f) = omega arith
from-one i j x z y (here a b) (high-on d e f) = omega arith
from-one i j x z y (high a b c) (low d e f) = omega arith
from-one i j x z y (high a b c) (low-on d e f) = omega arith
from-one i j x z y (high a b c) (here d e) = omega arith
from-one i j x z y (high a b c) (high d e f) = omega arith
from-one i j x z y (high a b c) (high-on d e f) = omega arith
from-one i j x z y (high-on a b c) (low d e f) = omega arith
from-one i j x z y (high-on a b c) (low-on d e f) = omega arith
from-one i j x z y (high-on a b c) (here d e) = omega arith
from-one i j x z y (high-on a b c) (high d e f) = omega arith
from-one i j x z y (high-on a b c) (high-on d e f) = omega arith

moved-apart : (n i j : ℕ) → i < n → j < n → AreApart (moved_place n i j)
moved-apart n i j p q x z y h k = from-one i j x z y (moved-from n i j x y p q h) (moved-from n i j z y p q k)

fresh-split : (xs ys : List Link) → fresh_count (xs ++ ys) ≡ fresh_count xs + fresh_count ys
fresh-split [] ys = omega arith
fresh-split (Stays k ∷ xs) ys = fresh-split xs ys
fresh-split (Moved k ∷ xs) ys = fresh-split xs ys
fresh-split (Gone ∷ xs) ys = let w = fresh-split xs ys in omega arith
fresh-split (Missed ∷ xs) ys = let w = fresh-split xs ys in omega arith

no-fresh-insert : (ls : List Link) (j : ℕ) (l : Link) → fresh_count ls ≡ 0 → fresh_count (l ∷ []) ≡ 0 → fresh_count (insert ls j l) ≡ 0
no-fresh-insert [] zero l h k = k
no-fresh-insert [] (suc j) l h k = k
no-fresh-insert (m ∷ ls) zero l h k =
    let w = fresh-split (l ∷ []) (m ∷ ls) in omega arith
no-fresh-insert (Stays i ∷ ls) (suc j) l h k = no-fresh-insert ls j l h k
no-fresh-insert (Moved i ∷ ls) (suc j) l h k = no-fresh-insert ls j l h k
no-fresh-insert (Gone ∷ ls) (suc j) l h k = absurd (omega arith)
no-fresh-insert (Missed ∷ ls) (suc j) l h k = absurd (omega arith)

no-fresh-remove : (k n i : ℕ) → fresh_count (remove (map Stays (range_with_len k n)) i) ≡ 0
no-fresh-remove k zero zero = refl
no-fresh-remove k zero (suc i) = refl
no-fresh-remove k (suc n) zero = no-fresh-range (k + 1) n
no-fresh-remove k (suc n) (suc i) = no-fresh-remove (k + 1) n i

no-fresh-mover : (i j : ℕ) → fresh_count (mover i j ∷ []) ≡ 0
no-fresh-mover i j = of-test (nat_eq i j)
  where
    of-test : (b : Bool) → fresh_count ((if b then Stays i else Moved i) ∷ []) ≡ 0
    of-test true = refl
    of-test false = refl

no-fresh-moved : (n i j : ℕ) → fresh_count (moved_place n i j) ≡ 0
no-fresh-moved n i j = no-fresh-insert (remove (same_places n) i) j (mover i j) (no-fresh-remove 0 n i) (no-fresh-mover i j)

-- ---- a near edit that adds nothing

near-alone : {A B : Type 0} (r : A → B → Type 0) (n : ℕ) (plan ls : List Link) (a : A) (b : B) (s : List A) (t : List B) → Spans r ls s t → AreApart plan → r a b → fresh_count plan ≡ 0
    → Spans r (near_planned n plan ls) (gathered plan a s) t
near-alone r n plan ls a b s t h p ab none = near-spans r n plan ls a b s t h p ab (λ d q. absurd (omega arith)) (λ x y d e q k. omega arith)

-- a plan of as many places as a list has
length-gathered : {A : Type 0} (plan : List Link) (a : A) (xs : List A) → length (gathered plan a xs) ≡ length plan
length-gathered plan a xs = length-map plan (content_of xs a)

-- ---- theorem: items at the end

pub ins-carries : {A B : Type 0} (r : A → B → Type 0) (c m : ℕ) (a : A) (b : B) (ls : List Link) (s : List A) (t : List B) → Spans r ls s t → length t ≡ m → is_count c ≡ true → r a b → Carries r (carried_ins c m ls) (edited a (Ins c) s) b t
ins-carries r c m a b ls s t h e k ab =
    let n = length s in
    record {
      near = gathered (longer n c) a s;
      far = gathered (longer (length t) c) b t;
      near_is = ins-edited a c s k;
      far_is = ins-all b c t k;
      spans = subst (λ i. Spans r (near_planned i (longer (length ls) c) (far_planned (longer i c) ls)) (gathered (longer n c) a s) (gathered (longer (length t) c) b t)) e
          (subst (λ i. Spans r (near_planned (length t) (longer i c) (far_planned (longer (length t) c) ls)) (gathered (longer n c) a s) (gathered (longer (length t) c) b t)) (sym h.as_many)
          (planned-twice r (length t) (longer n c) (longer (length t) c) ls a b s t h (longer-apart n c) (longer-fresh n (length t) c) ab));
      size = length-gathered (longer (length t) c) b t ∙ (size-longer (length t) c ∙ ap (λ i. i + c) e);
    }

-- ---- theorem: one item is moved

put-spans : {A B : Type 0} (r : A → B → Type 0) (i j : ℕ) (a : A) (b : B) (ls : List Link) (s : List A) (t : List B) → Spans r ls s t → i < length s → j < length s → r a b → Spans r (put_at i j ls) (gathered (moved_place (length s) i j) a s) t
put-spans r i j a b ls s t h p q ab =
    subst (λ n. Spans r (near_planned 0 (moved_place n i j) ls) (gathered (moved_place (length s) i j) a s) t) (sym h.as_many)
    (near-alone r 0 (moved_place (length s) i j) ls a b s t h (moved-apart (length s) i j p q) ab (no-fresh-moved (length s) i j))

moved-to-carries : {A B : Type 0} (r : A → B → Type 0) (i j m y g : ℕ) (a : A) (b : B) (ls : List Link) (s : List A) (t : List B) → Spans r ls s t → length t ≡ m → i < length s → j < length s → y < m → g < m → r a b
    → Carries r (moved_to i j m ls y g) (edited a (MoveItem i j) s) b t
moved-to-carries r i j m y g a b ls s t h e p q o w ab =
    let far = far-spans r (moved_place m y g) ls b s t h in
    let moved : all_edited b (move_edit y g) t ≡ Some (gathered (moved_place m y g) b t) =
    subst (λ n. all_edited b (move_edit y g) t ≡ Some (gathered (moved_place n y g) b t)) e (move-all b y g t (omega arith) (omega arith)) in
    record {
      near = gathered (moved_place (length s) i j) a s;
      far = gathered (moved_place m y g) b t;
      near_is = move-edited a i j s p q;
      far_is = moved;
      spans = put-spans r i j a b (far_planned (moved_place m y g) ls) s (gathered (moved_place m y g) b t) far p q ab;
      size = length-gathered (moved_place m y g) b t ∙ size-moved m y g o;
    }

below-is : (m y : ℕ) (o : Option ℕ) → place_below m o ≡ Some y → y < m
below-is m y None h = absurd cc
below-is m y (Some z) h = of-test (nat_lt z m) refl h
  where
    of-test : (b : Bool) → nat_lt z m ≡ b → (if b then Some z else None) ≡ Some y → y < m
    of-test true k g = let e : z ≡ y = cc in grind (arith, nat_tests)
    of-test false k g = absurd cc

gap-below : (m y : ℕ) (o : Option ℕ) → y < m → ((z : ℕ) → o ≡ Some z → z < m) → gap_before m y o < m
gap-below m y None h k = omega arith
gap-below m y (Some z) h k = of-test (nat_le z y)
  where
    of-test : (b : Bool) → (if b then z else z - 1) < m
    of-test true = k z refl
    of-test false = let w = k z refl in omega arith

move-test-carries : {A B : Type 0} (r : A → B → Type 0) (i j m y : ℕ) (a : A) (b : B) (ls : List Link) (s : List A) (t : List B) (same : Bool) → nat_eq i j ≡ same → Spans r ls s t → length t ≡ m → i < length s → j < length s → y < m → r a b
    → Carries r (if same then ([], ls, m) else moved_to i j m ls y (gap_for m j (put_at i j ls) y)) (edited a (MoveItem i j) s) b t
move-test-carries r i j m y a b ls s t true u h e p q o ab =
    let ij : i ≡ j = grind (arith, nat_tests) in
    record {
      near = s;
      far = t;
      near_is = move-edited a i j s p q ∙ ap Some (subst (λ k. gathered (moved_place (length s) i k) a s ≡ s) ij (gathered-there a s i p));
      far_is = refl;
      spans = h;
      size = e;
    }
move-test-carries r i j m y a b ls s t false u h e p q o ab =
    moved-to-carries r i j m y (gap_for m j (put_at i j ls) y) a b ls s t h e p q o
    (gap-below m y (place_below m (first_stay (drop (j + 1) (put_at i j ls)))) o (λ z g. below-is m z (first_stay (drop (j + 1) (put_at i j ls))) g)) ab

move-from-carries : {A B : Type 0} (r : A → B → Type 0) (i j m : ℕ) (a : A) (b : B) (ls : List Link) (s : List A) (t : List B) (q : Carried) (o : Option ℕ) → Spans r ls s t → length t ≡ m → i < length s → j < length s → ((y : ℕ) → o ≡ Some y → y < m)
    → r a b → option_map (moved_from i j m ls) o ≡ Some q → Carries r q (edited a (MoveItem i j) s) b t
move-from-carries r i j m a b ls s t q None h e p k o ab w = absurd cc
move-from-carries r i j m a b ls s t q (Some y) h e p k o ab w =
    let is : moved_from i j m ls y ≡ q = cc in
    subst (λ c. Carries r c (edited a (MoveItem i j) s) b t) is (move-test-carries r i j m y a b ls s t (nat_eq i j) refl h e p k (o y refl) ab)

pub move-carries : {A B : Type 0} (r : A → B → Type 0) (i j m : ℕ) (a : A) (b : B) (ls : List Link) (s : List A) (t : List B) (q : Carried) → Spans r ls s t → length t ≡ m → i < length s → j < length s → r a b
    → carried_move i j m ls ≡ Some q → Carries r q (edited a (MoveItem i j) s) b t
move-carries r i j m a b ls s t q h e p k ab w = move-from-carries r i j m a b ls s t q (far_place m (link_at ls i)) h e p k (λ y g. below-is m y (place_of (link_at ls i)) g) ab w

-- ---- theorem: the last items are removed

record Parks {A B : Type 0} (r : A → B → Type 0) (q : Carried) (m f c : ℕ) (b : B) (s : List A) (t : List B) : Type 0 where
  far : List B
  far_is : all_edited b q.0 t ≡ Some far
  spans : Spans r q.1 s far
  size : length far ≡ m
  few : f ≤ q.2 + c
  less : q.2 ≤ m

park-behind : {A B : Type 0} (r : A → B → Type 0) (es : List ShapeEdit) (q : Carried) (m f g c : ℕ) (b : B) (s : List A) (t u : List B) → all_edited b es t ≡ Some u → f ≤ g + 1 → Parks r q m g c b s u → Parks r (behind es q) m f (suc c) b s t
park-behind r es q m f g c b s t u e k h =
    record {
      far = h.far;
      far_is = all-behind b es q.0 t u e ∙ h.far_is;
      spans = h.spans;
      size = h.size;
      few = let d = h.few in omega arith;
      less = h.less;
    }

park-one : {A B : Type 0} (r : A → B → Type 0) (m x c f : ℕ) (b : B) (ls : List Link) (s : List A) (t : List B) (o : Option ℕ) → Spans r ls s t → length t ≡ m → f ≤ m → ((y : ℕ) → o ≡ Some y → y < m)
    → ((f : ℕ) (ls : List Link) (t : List B) → Spans r ls s t → length t ≡ m → f ≤ m → Parks r (parked m (x - 1) c f ls) m f c b s t)
    → Parks r (behind (park_edits f o) (parked m (x - 1) c (park_free f o) (park_links m f ls o))) m f (suc c) b s t
park-one r m x c f b ls s t None h e k o deeper = park-behind r [] (parked m (x - 1) c f ls) m f f c b s t t refl (omega arith) (deeper f ls t h e k)
park-one r m x c f b ls s t (Some y) h e k o deeper =
    let p : y < m = o y refl in
    let w : f - 1 < m = omega arith in
    let u = gathered (moved_place m y (f - 1)) b t in
    let moved : all_edited b (move_edit y (f - 1)) t ≡ Some u =
    subst (λ n. all_edited b (move_edit y (f - 1)) t ≡ Some (gathered (moved_place n y (f - 1)) b t)) e (move-all b y (f - 1) t (omega arith) (omega arith)) in
    park-behind r (move_edit y (f - 1)) (parked m (x - 1) c (f - 1) (far_planned (moved_place m y (f - 1)) ls)) m f (f - 1) c b s t u moved (omega arith)
    (deeper (f - 1) (far_planned (moved_place m y (f - 1)) ls) u (far-spans r (moved_place m y (f - 1)) ls b s t h)
    (length-gathered (moved_place m y (f - 1)) b t ∙ size-moved m y (f - 1) p) (omega arith))

parks : {A B : Type 0} (r : A → B → Type 0) (m x c f : ℕ) (b : B) (ls : List Link) (s : List A) (t : List B) → Spans r ls s t → length t ≡ m → f ≤ m → Parks r (parked m x c f ls) m f c b s t
parks r m x zero f b ls s t h e k = record { far = t; far_is = refl; spans = h; size = e; few = omega arith; less = k }
parks r m x (suc c) f b ls s t h e k =
    park-one r m x c f b ls s t (far_place m (link_at ls (x - 1))) h e k (λ y g. below-is m y (place_of (link_at ls (x - 1))) g)
    (λ f ls t h e k. parks r m (x - 1) c f b ls s t h e k)

count-at-most : (c d : ℕ) → is_count c ≡ true → d ≤ c → 0 < d → is_count d ≡ true
count-at-most c d h k p = of-tests (nat_le 1 c) (nat_le c MOST_ITEMS) refl refl h
  where
    of-tests : (u v : Bool) → nat_le 1 c ≡ u → nat_le c MOST_ITEMS ≡ v → (u && v) ≡ true → is_count d ≡ true
    of-tests true true e g w = let a : nat_le 1 d ≡ true = grind (arith, nat_tests) in let b : nat_le d MOST_ITEMS ≡ true = grind (arith, nat_tests) in rw (a, b) refl
    of-tests true false e g w = absurd cc
    of-tests false v e g w = absurd cc

shortened-carries : {A B : Type 0} (r : A → B → Type 0) (m c : ℕ) (a : A) (b : B) (q : Carried) (s : List A) (t : List B) → Parks r q m m c b s t → is_count c ≡ true → c ≤ length s → r a b
    → Carries r (shortened m (length s) c q) (edited a (Del c) s) b t
shortened-carries r m c a b q s t w k p ab =
    let d = m - q.2 in
    let few = w.few in
    let less = w.less in
    let size = w.size in
    let f : length w.far - d ≡ q.2 = omega arith in
    let gone : all_edited b (del_edit d) w.far ≡ Some (gathered (same_places q.2) b w.far) =
    subst (λ n. all_edited b (del_edit d) w.far ≡ Some (gathered (same_places n) b w.far)) f (del-all b d w.far (omega arith) (λ o. count-at-most c d k (omega arith) o)) in
    record {
      near = gathered (same_places (length s - c)) a s;
      far = gathered (same_places q.2) b w.far;
      near_is = del-edited a c s k p;
      far_is = all-behind b q.0 (del_edit d) t w.far w.far_is ∙ gone;
      spans = near-alone r 0 (same_places (length s - c)) (far_planned (same_places q.2) q.1) a b s (gathered (same_places q.2) b w.far)
          (far-spans r (same_places q.2) q.1 b s w.far w.spans) (same-apart (length s - c)) ab (no-fresh-range 0 (length s - c));
      size = length-gathered (same_places q.2) b w.far ∙ size-same q.2;
    }

pub del-carries : {A B : Type 0} (r : A → B → Type 0) (c m : ℕ) (a : A) (b : B) (ls : List Link) (s : List A) (t : List B) → Spans r ls s t → length t ≡ m → is_count c ≡ true → c ≤ length s → r a b
    → Carries r (carried_del c m ls) (edited a (Del c) s) b t
del-carries r c m a b ls s t h e k p ab =
    let w = parks r m (length ls) c m b ls s t h e (omega arith) in
    subst (λ n. Carries r (shortened m n c (parked m (length ls) c m ls)) (edited a (Del c) s) b t) (sym h.as_many)
    (shortened-carries r m c a b (parked m (length ls) c m ls) s t w k p ab)

-- ---- theorem: the items get another order

pub reorder-carries : {A B : Type 0} (r : A → B → Type 0) (f : List ℕ) (m : ℕ) (a : A) (b : B) (ls : List Link) (s : List A) (t : List B) → Spans r ls s t → length t ≡ m → length f ≡ length s → is_each_new (length s) [] f ≡ true → r a b
    → Carries r (carried_reorder f m ls) (edited a (Reorder f) s) b t
reorder-carries r f m a b ls s t h e k o ab =
    let g = far_order m ls f in
    let u = gathered (map Stays g) b t in
    let size : length g ≡ length t = order-size m ls f ∙ sym e in
    let once : is_each_new (length t) [] g ≡ true = subst (λ n. is_each_new n [] g ≡ true) (sym e) (order-once (length s) m ls f h.apart o) in
    let far : Spans r (far_planned (map Stays g) ls) s u = far-spans r (map Stays g) ls b s t h in
    let both : Spans r (ordered f g ls) (gathered (map Moved f) a s) u =
    near-alone r 0 (map Moved f) (far_planned (map Stays g) ls) a b s u far (order-apart (length s) f o) ab (no-fresh-order f) in
    record {
      near = gathered (map Stays f) a s;
      far = u;
      near_is = order-edited a f s k o;
      far_is = order-all b g t size once;
      spans = subst (λ ys. Spans r (ordered f g ls) ys u) (gathered-moved a f s) both;
      size = length-gathered (map Stays g) b t ∙ (length-map g Stays ∙ order-size m ls f);
    }
