-- Edits that have a plan, what is carried of them, and changes of items.
use Rattle.std.proofs.Common.{◌≡◌, ℕ, zero, suc, ◌+◌, ◌-◌, ◌≤◌, ◌<◌, Bool, true, false, List, [], ◌∷◌, ◌++◌, length, map, replicate, Option, Some, None, Result, Ok, Err, refl, sym, ap, ◌∙◌, arith, subst}
use Rattle.std.specs.Prelude.{if◌then◌else◌, ◌&&◌, nat_eq, nat_lt, nat_le, option_map, IsOk, slice_get, slice_set}
use Rattle.std.specs.List.{insert, remove}
use Rattle.std.proofs.lemmas.Bool.Decides.{nat_tests}
use Rattle.std.proofs.lemmas.List.{length-set}
use Rattle.std.proofs.lemmas.Option.{slice_get_within}
use Rattle.hold_shapes.specs.declared.edit.ShapeEdit.{ShapeEdit}
use Rattle.hold_shapes.specs.declared.edit.ShapeEdit.TheVariants.{Ins, Del, MoveItem, Reorder, PutKey, DropKey, RenameKey, Graft, Prune, Shift, Hang}
use Rattle.hold_shapes.specs.Causes.{PlanCause, Range, Place, Length}
use Rattle.hold_shapes.specs.Plans.{Planned, plan_list, list_of, old_places, is_count, is_each_new}
use Rattle.hold_shapes.specs.declared.origins.Origin.TheVariants.{Old, Fresh}
use Rattle.bridge_links.specs.declared.link.Link.{Link}
use Rattle.bridge_links.specs.Links.{place_of, far_at, link_at}
use Rattle.bridge_links.specs.Spans.{AreRelated, Spans}
use Rattle.bridge_lists.specs.Carried.{Carried, place_below, far_place, moved_from, carried_ins, carried_del, carried_reorder, carried}
use Rattle.bridge_lists.specs.Laws.{contents_of, edited, all_edited, MovesLost, Carries}
use Rattle.bridge_lists.proofs.FarOrders.{linked-place}
use Rattle.bridge_lists.proofs.Plans.{all-behind}
use Rattle.bridge_lists.proofs.Theorems.{ins-carries, move-carries, del-carries, reorder-carries}

-- ---- what the tests of a plan say

pub left-true : (s t : Bool) → (s && t) ≡ true → s ≡ true
left-true true t h = refl
left-true false t h = absurd cc

pub right-true : (s t : Bool) → (s && t) ≡ true → t ≡ true
right-true true t h = h
right-true false t h = absurd cc

pub below-of : (i n : ℕ) → nat_lt i n ≡ true → i < n
below-of i n h = grind (arith, nat_tests)

below-so : (i n : ℕ) → i < n → nat_lt i n ≡ true
below-so i n h = grind (arith, nat_tests)

eq-so : (i n : ℕ) → i ≡ n → nat_eq i n ≡ true
eq-so i n h = grind (arith, nat_tests)

pub most-of : (i n : ℕ) → nat_le i n ≡ true → i ≤ n
most-of i n h = grind (arith, nat_tests)

pub eq-of : (i n : ℕ) → nat_eq i n ≡ true → i ≡ n
eq-of i n h = grind (arith, nat_tests)

-- ---- the plans behind the tests

abbrev pub ins_plan : ℕ → ℕ → Planned
ins_plan n c = Ok (list_of (n + c), old_places n ++ replicate c Fresh)

abbrev pub del_plan : ℕ → ℕ → Planned
del_plan n c = Ok (list_of (n - c), old_places (n - c))

abbrev pub move_plan : ℕ → ℕ → ℕ → Planned
move_plan n i j = Ok (list_of n, insert (remove (old_places n) i) j (Old i))

abbrev pub order_plan : ℕ → List ℕ → Planned
order_plan n f = if is_each_new n [] f then Ok (list_of n, map Old f) else Err Range

-- ---- for the code: an edit that has a plan

ok-test : (t : Bool) (p : Planned) (cause : PlanCause) → IsOk (if t then p else Err cause) → t ≡ true
ok-test true p cause h = refl
ok-test false p cause h = absurd cc

move-test : (n i j : ℕ) → IsOk (plan_list n (MoveItem i j)) → (nat_lt i n && nat_lt j n) ≡ true
move-test n i j h = ok-test (nat_lt i n && nat_lt j n) (move_plan n i j) Place h

pub move-old : (n i j : ℕ) → IsOk (plan_list n (MoveItem i j)) → i < n
move-old n i j h = below-of i n (left-true (nat_lt i n) (nat_lt j n) (move-test n i j h))

pub move-new : (n i j : ℕ) → IsOk (plan_list n (MoveItem i j)) → j < n
move-new n i j h = below-of j n (right-true (nat_lt i n) (nat_lt j n) (move-test n i j h))

pub del-most : (n c : ℕ) → IsOk (plan_list n (Del c)) → c ≤ n
del-most n c h = most-of c n (right-true (is_count c) (nat_le c n) (ok-test (is_count c && nat_le c n) (del_plan n c) Range h))

pub ruleset planned_rules = (move-old, move-new, del-most)

-- ---- theorem: each edit that has a plan

has-plan : {A : Type 0} (a : A) (xs ys : List A) (t : Bool) (p : Planned) (cause : PlanCause) → contents_of a xs (if t then p else Err cause) ≡ Some ys → t ≡ true
has-plan a xs ys true p cause h = refl
has-plan a xs ys false p cause h = absurd cc

has-inner : {A : Type 0} (a : A) (xs ys : List A) (t : Bool) (p : Planned) (cause : PlanCause) → contents_of a xs (if t then p else Err cause) ≡ Some ys → contents_of a xs p ≡ Some ys
has-inner a xs ys true p cause h = h
has-inner a xs ys false p cause h = absurd cc

-- what the lists are is the same in each case
record AreEdited {A B : Type 0} (r : A → B → Type 0) (e : ShapeEdit) (m : ℕ) (a : A) (b : B) (ls : List Link) (s : List A) (t : List B) (near : List A) : Type 0 where
  spans : Spans r ls s t
  size : length t ≡ m
  planned : edited a e s ≡ Some near
  fresh : r a b

carries : {A B : Type 0} (r : A → B → Type 0) (e : ShapeEdit) (m : ℕ) (a : A) (b : B) (ls : List Link) (s : List A) (t : List B) (near : List A) (q : Carried) → AreEdited r e m a b ls s t near → carried e m ls ≡ Some q → Carries r q (edited a e s) b t
carries r (Ins c) m a b ls s t near q h g =
    let is : carried_ins c m ls ≡ q = cc in
    subst (λ k. Carries r k (edited a (Ins c) s) b t) is
    (ins-carries r c m a b ls s t h.spans h.size (has-plan a s near (is_count c) (ins_plan (length s) c) Range h.planned) h.fresh)
carries r (Del c) m a b ls s t near q h g =
    let w : (is_count c && nat_le c (length s)) ≡ true = has-plan a s near (is_count c && nat_le c (length s)) (del_plan (length s) c) Range h.planned in
    let is : carried_del c m ls ≡ q = cc in
    subst (λ k. Carries r k (edited a (Del c) s) b t) is
    (del-carries r c m a b ls s t h.spans h.size (left-true (is_count c) (nat_le c (length s)) w) (most-of c (length s) (right-true (is_count c) (nat_le c (length s)) w)) h.fresh)
carries r (MoveItem i j) m a b ls s t near q h g =
    let n = length s in
    let w : (nat_lt i n && nat_lt j n) ≡ true = has-plan a s near (nat_lt i n && nat_lt j n) (move_plan n i j) Place h.planned in
    move-carries r i j m a b ls s t q h.spans h.size (below-of i n (left-true (nat_lt i n) (nat_lt j n) w)) (below-of j n (right-true (nat_lt i n) (nat_lt j n) w)) h.fresh g
carries r (Reorder f) m a b ls s t near q h g =
    let n = length s in
    let w : nat_eq (length f) n ≡ true = has-plan a s near (nat_eq (length f) n) (order_plan n f) Length h.planned in
    let o : is_each_new n [] f ≡ true = has-plan a s near (is_each_new n [] f) (Ok (list_of n, map Old f)) Range (has-inner a s near (nat_eq (length f) n) (order_plan n f) Length h.planned) in
    let is : carried_reorder f m ls ≡ q = cc in
    subst (λ k. Carries r k (edited a (Reorder f) s) b t) is (reorder-carries r f m a b ls s t h.spans h.size (eq-of (length f) n w) o h.fresh)
carries r (PutKey k) m a b ls s t near q h g = absurd cc
carries r (DropKey k) m a b ls s t near q h g = absurd cc
carries r (RenameKey k l) m a b ls s t near q h g = absurd cc
carries r (Graft p) m a b ls s t near q h g = absurd cc
carries r (Prune p) m a b ls s t near q h g = absurd cc
carries r (Shift p i j) m a b ls s t near q h g = absurd cc
carries r (Hang k p) m a b ls s t near q h g = absurd cc

pub edit-carries : {A B : Type 0} (r : A → B → Type 0) (e : ShapeEdit) (m : ℕ) (a : A) (b : B) (ls : List Link) (s : List A) (t : List B) (near : List A) (q : Carried) → Spans r ls s t → length t ≡ m → edited a e s ≡ Some near → r a b
    → carried e m ls ≡ Some q → Carries r q (edited a e s) b t
edit-carries r e m a b ls s t near q h k p ab g = carries r e m a b ls s t near q (record { spans = h; size = k; planned = p; fresh = ab }) g

-- ---- theorem: only a move of what is gone is refused

-- an edit that has a plan and of which nothing is carried moves an item that the far list does not have
pub refused-moves : (e : ShapeEdit) (m a : ℕ) (ls : List Link) (s near : List ℕ) → edited a e s ≡ Some near → carried e m ls ≡ None → MovesLost m ls e
refused-moves (Ins c) m a ls s near h g = absurd cc
refused-moves (Del c) m a ls s near h g = absurd cc
refused-moves (MoveItem i j) m a ls s near h g = of-place (far_place m (link_at ls i)) g
  where
    of-place : (o : Option ℕ) → option_map (moved_from i j m ls) o ≡ None → o ≡ None
    of-place None e = refl
    of-place (Some y) e = absurd cc
refused-moves (Reorder f) m a ls s near h g = absurd cc
refused-moves (PutKey k) m a ls s near h g = absurd cc
refused-moves (DropKey k) m a ls s near h g = absurd cc
refused-moves (RenameKey k l) m a ls s near h g = absurd cc
refused-moves (Graft q) m a ls s near h g = absurd cc
refused-moves (Prune q) m a ls s near h g = absurd cc
refused-moves (Shift q i j) m a ls s near h g = absurd cc
refused-moves (Hang p q) m a ls s near h g = absurd cc

-- ---- theorem: a change of an item

set-there : {A : Type 0} (xs : List A) (x : ℕ) (a : A) → x < length xs → slice_get (slice_set xs x a) x ≡ Some a
set-there [] x a h = absurd (omega arith)
set-there (y ∷ xs) zero a h = refl
set-there (y ∷ xs) (suc x) a h = set-there xs x a (omega arith)

set-other : {A : Type 0} (xs : List A) (x z : ℕ) (a : A) → (x ≡ z → ⊥) → slice_get (slice_set xs x a) z ≡ slice_get xs z
set-other [] x z a h = refl
set-other (y ∷ xs) zero zero a h = absurd (h refl)
set-other (y ∷ xs) zero (suc z) a h = refl
set-other (y ∷ xs) (suc x) zero a h = refl
set-other (y ∷ xs) (suc x) (suc z) a h = set-other xs x z a (λ e. h (ap suc e))

near-there : {A B : Type 0} (r : A → B → Type 0) (s : List A) (x : ℕ) (o : Option A) (p : Option B) → slice_get s x ≡ o → AreRelated r o p → x < length s
near-there r s x None p e h = absurd h
near-there r s x (Some a) p e h = slice_get_within s x a e

far-there : {A B : Type 0} (r : A → B → Type 0) (t : List B) (y : ℕ) (o : Option A) (p : Option B) → slice_get t y ≡ p → AreRelated r o p → y < length t
far-there r t y None p e h = absurd h
far-there r t y (Some a) None e h = absurd h
far-there r t y (Some a) (Some b) e h = slice_get_within t y b e

one-place : (ls : List Link) (x y z : ℕ) → far_at ls x ≡ Some y → far_at ls x ≡ Some z → y ≡ z
one-place ls x y z h k = let e : Some y ≡ Some z = sym h ∙ k in cc

change-related : {A B : Type 0} (r : A → B → Type 0) (x y u v : ℕ) (a : A) (b : B) (ls : List Link) (s : List A) (t : List B) (same : Bool) → nat_eq x u ≡ same → Spans r ls s t → far_at ls x ≡ Some y → r a b
    → far_at ls u ≡ Some v → AreRelated r (slice_get (slice_set s x a) u) (slice_get (slice_set t y b) v)
change-related r x y u v a b ls s t true e h g ab k =
    let xu : x ≡ u = eq-of x u e in
    let yv : y ≡ v = one-place ls x y v g (subst (λ i. far_at ls i ≡ Some v) (sym xu) k) in
    let w = h.related x y g in
    let near : slice_get (slice_set s x a) u ≡ Some a = subst (λ i. slice_get (slice_set s x a) i ≡ Some a) xu (set-there s x a (near-there r s x (slice_get s x) (slice_get t y) refl w)) in
    let far : slice_get (slice_set t y b) v ≡ Some b = subst (λ i. slice_get (slice_set t y b) i ≡ Some b) yv (set-there t y b (far-there r t y (slice_get s x) (slice_get t y) refl w)) in
    rw (near, far) ab
change-related r x y u v a b ls s t false e h g ab k =
    let near : slice_get (slice_set s x a) u ≡ slice_get s u = set-other s x u a other in
    let far : slice_get (slice_set t y b) v ≡ slice_get t v = set-other t y v b (λ yv. other (h.apart x u y g (k ∙ ap Some (sym yv)))) in
    rw (near, far) (h.related u v k)
  where
    other : x ≡ u → ⊥
    other q = let same : nat_eq x u ≡ true = eq-so x u q in let c : true ≡ false = sym same ∙ e in cc

pub change-spans : {A B : Type 0} (r : A → B → Type 0) (x y : ℕ) (a : A) (b : B) (ls : List Link) (s : List A) (t : List B) → Spans r ls s t → far_at ls x ≡ Some y → r a b
    → Spans r ls (slice_set s x a) (slice_set t y b)
change-spans r x y a b ls s t h g ab =
    record {
      as_many = h.as_many ∙ sym (length-set s x a);
      apart = h.apart;
      related = λ u v k. change-related r x y u v a b ls s t (nat_eq x u) refl h g ab k;
    }

pub change-carries : {A B : Type 0} (r : A → B → Type 0) (m x y : ℕ) (a : A) (b : B) (ls : List Link) (s : List A) (t : List B) → Spans r ls s t → far_place m (link_at ls x) ≡ Some y → r a b → Spans r ls (slice_set s x a) (slice_set t y b)
change-carries r m x y a b ls s t h g ab = change-spans r x y a b ls s t h (linked-place m y x ls g) ab

linked-to : (ls : List Link) (x y : ℕ) → far_at ls x ≡ Some y → place_of (link_at ls x) ≡ Some y
linked-to [] x y h = absurd cc
linked-to (l ∷ ls) zero y h = h
linked-to (l ∷ ls) (suc x) y h = linked-to ls x y h

not-below : (m y : ℕ) → y < m → place_below m (Some y) ≡ None → ⊥
not-below m y h k = of-test (nat_lt y m) (below-so y m h) k
  where
    of-test : (b : Bool) → b ≡ true → (if b then Some y else None) ≡ None → ⊥
    of-test true e g = cc
    of-test false e g = cc

pub change-gone : {A B : Type 0} (r : A → B → Type 0) (m x y : ℕ) (ls : List Link) (s : List A) (t : List B) → Spans r ls s t → length t ≡ m → far_place m (link_at ls x) ≡ None → far_at ls x ≡ Some y → ⊥
change-gone r m x y ls s t h e g k =
    let w = far-there r t y (slice_get s x) (slice_get t y) refl (h.related x y k) in
    not-below m y (omega arith) (subst (λ o. place_below m o ≡ None) (linked-to ls x y k) g)

-- ---- theorem: both ways

pub both-ways : {A : Type 0} (a : A) (back edits last : List ShapeEdit) (near s t : List A) → all_edited a back near ≡ Some s → all_edited a edits s ≡ Some t
    → all_edited a (back ++ (edits ++ last)) near ≡ all_edited a last t
both-ways a back edits last near s t h k = all-behind a back (edits ++ last) near s h ∙ all-behind a edits last s t k
