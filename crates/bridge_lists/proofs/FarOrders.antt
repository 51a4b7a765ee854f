-- The order that the far list gets: each of its places comes once.
use Rattle.std.proofs.Common.{◌≡◌, ℕ, zero, suc, ◌+◌, ◌-◌, ◌≤◌, ◌<◌, Bool, true, false, List, [], ◌∷◌, ◌++◌, length, map, drop, Option, Some, None, refl, sym, ap, ◌∙◌, arith, subst, ◌⊎◌, inl, inr}
use Rattle.std.specs.Prelude.{if◌then◌else◌, not, ◌&&◌, ◌||◌, nat_eq, nat_lt, slice_get, slice_index_or}
use Rattle.std.specs.List.{range_with_len}
use Rattle.std.proofs.lemmas.Bool.Decides.{nat_tests}
use Rattle.hold_shapes.specs.Plans.{has_number, is_each_new}
use Rattle.bridge_links.specs.declared.link.Link.{Link}
use Rattle.bridge_links.specs.declared.link.Link.TheVariants.{Stays, Moved, Gone, Missed}
use Rattle.bridge_links.specs.Links.{place_of, far_at, link_at, fresh_count}
use Rattle.bridge_links.specs.Spans.{AreApart}
use Rattle.bridge_lists.specs.Carried.{far_place, place_below, with_first, far_places, slot, slots_left, slots, far_order, is_range}

-- ---- tests

either-of : (a b : Bool) → (a || b) ≡ true → (a ≡ true) ⊎ (b ≡ true)
either-of true b h = inl refl
either-of false b h = inr h

or-true : (a b : Bool) → b ≡ true → (a || b) ≡ true
or-true true b h = refl
or-true false b h = h

or-false : (a b : Bool) → a ≡ false → b ≡ false → (a || b) ≡ false
or-false true b h k = absurd cc
or-false false b h k = k

not-true : (b : Bool) → (b ≡ true → ⊥) → b ≡ false
not-true true h = absurd (h refl)
not-true false h = refl

not-both : (b : Bool) → b ≡ true → b ≡ false → ⊥
not-both b h k = let e : true ≡ false = sym h ∙ k in cc

eq-itself : (k : ℕ) → nat_eq k k ≡ true
eq-itself k = let e : k ≡ k = refl in grind (arith, nat_tests)

eq-is : (j k : ℕ) → nat_eq j k ≡ true → j ≡ k
eq-is j k h = grind (arith, nat_tests)

three-true : (a b c : Bool) → a ≡ true → b ≡ false → c ≡ true → (a && (not b && c)) ≡ true
three-true true false true h k l = refl
three-true true false false h k l = l
three-true true true c h k l = absurd cc
three-true false b c h k l = absurd cc

record AllThree (a b c : Bool) : Type 0 where
  low : a ≡ true
  new : b ≡ false
  more : c ≡ true

three-of : (a b c : Bool) → (a && (not b && c)) ≡ true → AllThree a b c
three-of true false true h = record { low = refl; new = refl; more = refl }
three-of true false false h = absurd cc
three-of true true c h = absurd cc
three-of false b c h = absurd cc

eq-so : (j k : ℕ) → j ≡ k → nat_eq j k ≡ true
eq-so j k h = grind (arith, nat_tests)

below-so : (k n : ℕ) → k < n → nat_lt k n ≡ true
below-so k n h = grind (arith, nat_tests)

below-of : (k n : ℕ) → nat_lt k n ≡ true → k < n
below-of k n h = grind (arith, nat_tests)

-- ---- numbers that come once

abbrev pub AreOnce : List ℕ → Type 0
AreOnce [] = Unit {0}
AreOnce (k ∷ ks) = (has_number k ks ≡ false) × AreOnce ks

abbrev pub AllBelow : ℕ → List ℕ → Type 0
AllBelow m [] = Unit {0}
AllBelow m (k ∷ ks) = (k < m) × AllBelow m ks

-- none of the numbers is among the others
abbrev pub AreOthers : List ℕ → List ℕ → Type 0
AreOthers [] before = Unit {0}
AreOthers (k ∷ ks) before = (has_number k before ≡ false) × AreOthers ks before

both-false : (a b : Bool) → (a || b) ≡ false → (a ≡ false) × (b ≡ false)
both-false true b e = absurd cc
both-false false b e = (refl, e)

others-less : (k : ℕ) (ks before : List ℕ) → AreOthers ks (k ∷ before) → AreOthers ks before
others-less k [] before d = tt
others-less k (j ∷ ks) before d = ((both-false (nat_eq j k) (has_number j before) d.0).1, others-less k ks before d.1)

not-there : (k : ℕ) (ks before : List ℕ) → AreOthers ks (k ∷ before) → has_number k ks ≡ false
not-there k [] before d = refl
not-there k (j ∷ ks) before d =
    or-false (nat_eq k j) (has_number k ks)
    (not-true (nat_eq k j) (λ e. let q : k ≡ j = eq-is k j e in not-both (nat_eq j k) (eq-so j k (sym q)) (both-false (nat_eq j k) (has_number j before) d.0).0))
    (not-there k ks before d.1)

record ComeOnce (n : ℕ) (before ks : List ℕ) : Type 0 where
  new : AreOthers ks before
  once : AreOnce ks

once-from : (n : ℕ) (before ks : List ℕ) → is_each_new n before ks ≡ true → ComeOnce n before ks
once-from n before [] h = record { new = tt; once = tt }
once-from n before (k ∷ ks) h =
    let w = three-of (nat_lt k n) (has_number k before) (is_each_new n (k ∷ before) ks) h in
    let d = once-from n (k ∷ before) ks w.more in
    record { new = (w.new, others-less k ks before d.new); once = (not-there k ks before d.new, d.once) }

others-more : (k : ℕ) (ks before : List ℕ) → AreOthers ks before → has_number k ks ≡ false → AreOthers ks (k ∷ before)
others-more k [] before h p = tt
others-more k (j ∷ ks) before h p =
    let w = both-false (nat_eq k j) (has_number k ks) p in (
      or-false (nat_eq j k) (has_number j before) (not-true (nat_eq j k) (λ e. not-both (nat_eq k j) (eq-so k j (sym (eq-is j k e))) w.0)) h.0,
      others-more k ks before h.1 w.1,
    )

-- ---- the places of items

with-first-has : (o : Option ℕ) (ys : List ℕ) (y : ℕ) → has_number y (with_first o ys) ≡ true → (o ≡ Some y) ⊎ (has_number y ys ≡ true)
with-first-has None ys y h = inr h
with-first-has (Some z) ys y h = by-case (either-of (nat_eq y z) (has_number y ys) h)
  where
    by-case : (nat_eq y z ≡ true) ⊎ (has_number y ys ≡ true) → (Some z ≡ Some y) ⊎ (has_number y ys ≡ true)
    by-case (inl e) = inl (ap Some (sym (eq-is y z e)))
    by-case (inr e) = inr e

record HasPlace (m y : ℕ) (ls : List Link) (f : List ℕ) : Type 0 where
  item : ℕ
  among : has_number item f ≡ true
  there : far_place m (link_at ls item) ≡ Some y

place-from : (m y : ℕ) (ls : List Link) (f : List ℕ) → has_number y (far_places m ls f) ≡ true → HasPlace m y ls f
place-from m y ls [] h = absurd cc
place-from m y ls (x ∷ f) h = by-case (with-first-has (far_place m (link_at ls x)) (far_places m ls f) y h) (λ g. place-from m y ls f g)
  where
    by-case : (far_place m (link_at ls x) ≡ Some y) ⊎ (has_number y (far_places m ls f) ≡ true) → (has_number y (far_places m ls f) ≡ true → HasPlace m y ls f) → HasPlace m y ls (x ∷ f)
    by-case (inl e) deeper = record { item = x; among = rw (eq-itself x) refl; there = e }
    by-case (inr e) deeper = let w = deeper e in record { item = w.item; among = or-true (nat_eq w.item x) (has_number w.item f) w.among; there = w.there }

below-place : (m y : ℕ) (o : Option ℕ) → place_below m o ≡ Some y → (o ≡ Some y) × (y < m)
below-place m y None h = absurd cc
below-place m y (Some z) h = of-test (nat_lt z m) refl h
  where
    of-test : (b : Bool) → nat_lt z m ≡ b → (if b then Some z else None) ≡ Some y → (Some z ≡ Some y) × (y < m)
    of-test true e g = (g, let q : z ≡ y = cc in let p = below-of z m e in omega arith)
    of-test false e g = absurd cc

linked-at : (ls : List Link) (x y : ℕ) → place_of (link_at ls x) ≡ Some y → far_at ls x ≡ Some y
linked-at [] x y h = absurd cc
linked-at (l ∷ ls) zero y h = h
linked-at (l ∷ ls) (suc x) y h = linked-at ls x y h

pub linked-place : (m y x : ℕ) (ls : List Link) → far_place m (link_at ls x) ≡ Some y → far_at ls x ≡ Some y
linked-place m y x ls h = linked-at ls x y ((below-place m y (place_of (link_at ls x)) h).0)

places-below : (m : ℕ) (ls : List Link) (f : List ℕ) → AllBelow m (far_places m ls f)
places-below m ls [] = tt
places-below m ls (x ∷ f) = of-place (far_place m (link_at ls x)) refl (places-below m ls f)
  where
    of-place : (o : Option ℕ) → far_place m (link_at ls x) ≡ o → AllBelow m (far_places m ls f) → AllBelow m (with_first o (far_places m ls f))
    of-place None e deeper = deeper
    of-place (Some y) e deeper = ((below-place m y (place_of (link_at ls x)) e).1, deeper)

places-once : (m : ℕ) (ls : List Link) (f : List ℕ) → AreApart ls → AreOnce f → AreOnce (far_places m ls f)
places-once m ls [] a h = tt
places-once m ls (x ∷ f) a h = of-place (far_place m (link_at ls x)) refl (places-once m ls f a h.1)
  where
    again : (y : ℕ) → far_place m (link_at ls x) ≡ Some y → has_number y (far_places m ls f) ≡ true → ⊥
    again y e g =
        let w = place-from m y ls f g in
        let same : w.item ≡ x = a w.item x y (linked-place m y w.item ls w.there) (linked-place m y x ls e) in
        not-both (has_number x f) (subst (λ i. has_number i f ≡ true) same w.among) h.0

    of-place : (o : Option ℕ) → far_place m (link_at ls x) ≡ o → AreOnce (far_places m ls f) → AreOnce (with_first o (far_places m ls f))
    of-place None e deeper = deeper
    of-place (Some y) e deeper = (not-true (has_number y (far_places m ls f)) (λ g. again y e g), deeper)

-- ---- how many of n places from y on are among the numbers

abbrev pub mark : Bool → ℕ
mark true = 1
mark false = 0

abbrev pub count_in : List ℕ → ℕ → ℕ → ℕ
count_in ms y zero = 0
count_in ms y (suc n) = mark (has_number y ms) + count_in ms (y + 1) n

count-none : (y n : ℕ) → count_in [] y n ≡ 0
count-none y zero = refl
count-none y (suc n) = let w = count-none (y + 1) n in omega arith

mark-other : (a b : Bool) → a ≡ false → mark (a || b) ≡ mark b
mark-other true b h = absurd cc
mark-other false b h = refl

mark-most : (a b : Bool) → mark (a || b) ≤ 1
mark-most true b = omega arith
mark-most false true = omega arith
mark-most false false = omega arith

count-past : (k : ℕ) (ms : List ℕ) (y n : ℕ) → k < y → count_in (k ∷ ms) y n ≡ count_in ms y n
count-past k ms y zero h = refl
count-past k ms y (suc n) h =
    let other : nat_eq y k ≡ false = not-true (nat_eq y k) (λ e. let q = eq-is y k e in omega arith) in
    let one = mark-other (nat_eq y k) (has_number y ms) other in
    let w = count-past k ms (y + 1) n (omega arith) in
    omega arith

count-more : (k : ℕ) (ms : List ℕ) (y n : ℕ) → count_in (k ∷ ms) y n ≤ count_in ms y n + 1
count-more k ms y zero = omega arith
count-more k ms y (suc n) = of-test (nat_eq y k) refl (count-more k ms (y + 1) n)
  where
    of-test : (b : Bool) → nat_eq y k ≡ b → count_in (k ∷ ms) (y + 1) n ≤ count_in ms (y + 1) n + 1
        → mark (nat_eq y k || has_number y ms) + count_in (k ∷ ms) (y + 1) n ≤ mark (has_number y ms) + count_in ms (y + 1) n + 1
    of-test true e deeper =
        let q = eq-is y k e in
        let w = count-past k ms (y + 1) n (omega arith) in
        let one = mark-most (nat_eq y k) (has_number y ms) in
        omega arith
    of-test false e deeper = let one = mark-other (nat_eq y k) (has_number y ms) e in omega arith

count-all : (ms : List ℕ) (y n : ℕ) → count_in ms y n ≤ length ms
count-all [] y n = let w = count-none y n in omega arith
count-all (k ∷ ms) y n = let w = count-more k ms y n in let d = count-all ms y n in omega arith

-- ---- each place once

abbrev pub AllIn : List ℕ → List ℕ → Type 0
AllIn mine [] = Unit {0}
AllIn mine (k ∷ ks) = (has_number k mine ≡ true) × AllIn mine ks

in-more : (k : ℕ) (mine ks : List ℕ) → AllIn mine ks → AllIn (k ∷ mine) ks
in-more k mine [] h = tt
in-more k mine (j ∷ ks) h = (or-true (nat_eq j k) (has_number j mine) h.0, in-more k mine ks h.1)

all-in-itself : (ks : List ℕ) → AllIn ks ks
all-in-itself [] = tt
all-in-itself (k ∷ ks) = (rw (eq-itself k) refl, in-more k ks ks (all-in-itself ks))

not-in : (y : ℕ) (mine ks : List ℕ) → AllIn mine ks → has_number y mine ≡ false → has_number y ks ≡ false
not-in y mine [] h p = refl
not-in y mine (k ∷ ks) h p =
    or-false (nat_eq y k) (has_number y ks)
    (not-true (nat_eq y k) (λ e. let q : k ≡ y = sym (eq-is y k e) in not-both (has_number y mine) (subst (λ i. has_number i mine ≡ true) q h.0) p))
    (not-in y mine ks h.1 p)

-- what holds before place y is decided, where n places are left
record AreLeft (m : ℕ) (mine : List ℕ) (y n : ℕ) (next before : List ℕ) : Type 0 where
  size : y + n ≡ m
  once : AreOnce next
  low : AllBelow m next
  new : AreOthers next before
  among : AllIn mine next
  enough : count_in mine y n ≤ length next
  stay : (z : ℕ) → y ≤ z → has_number z mine ≡ false → has_number z before ≡ false

slot-step : (m : ℕ) (mine : List ℕ) (y n : ℕ) (next before : List ℕ) (b : Bool) → has_number y mine ≡ b → AreLeft m mine y (suc n) next before
    → ((next before : List ℕ) → AreLeft m mine (y + 1) n next before → is_each_new m before (slots mine (y + 1) n next) ≡ true)
    → is_each_new m before (slot b y next ∷ slots mine (y + 1) n (slots_left b next)) ≡ true
slot-step m mine y n next before false e h deeper =
    let size = h.size in
    let stay = h.stay in
    let enough = h.enough in
    let there : y < m = omega arith in
    let free : has_number y before ≡ false = stay y (omega arith) e in
    let none : mark (has_number y mine) ≡ 0 = ap mark e in
    three-true (nat_lt y m) (has_number y before) (is_each_new m (y ∷ before) (slots mine (y + 1) n next)) (below-so y m there) free
    (deeper next (y ∷ before) (record {
      size = omega arith;
      once = h.once;
      low = h.low;
      new = others-more y next before h.new (not-in y mine next h.among e);
      among = h.among;
      enough = omega arith;
      stay = λ z p g. or-false (nat_eq z y) (has_number z before) (not-true (nat_eq z y) (λ q. let w = eq-is z y q in absurd (omega arith))) (stay z (omega arith) g);
    }))
slot-step m mine y n [] before true e h deeper =
    let enough = h.enough in
    let one : mark (has_number y mine) ≡ 1 = ap mark e in
    absurd (omega arith)
slot-step m mine y n (k ∷ ks) before true e h deeper =
    let size = h.size in
    let stay = h.stay in
    let enough = h.enough in
    let one : mark (has_number y mine) ≡ 1 = ap mark e in
    let new = h.new in
    let once = h.once in
    let low = h.low in
    let among = h.among in
    three-true (nat_lt k m) (has_number k before) (is_each_new m (k ∷ before) (slots mine (y + 1) n ks)) (below-so k m low.0) new.0
    (deeper ks (k ∷ before) (record {
      size = omega arith;
      once = once.1;
      low = low.1;
      new = others-more k ks before new.1 once.0;
      among = among.1;
      enough = omega arith;
      stay = λ z p g.
          or-false (nat_eq z k) (has_number z before)
          (not-true (nat_eq z k) (λ q. let w : k ≡ z = sym (eq-is z k q) in not-both (has_number z mine) (subst (λ i. has_number i mine ≡ true) w among.0) g))
          (stay z (omega arith) g);
    }))

slots-once : (m : ℕ) (mine : List ℕ) (y n : ℕ) (next before : List ℕ) → AreLeft m mine y n next before → is_each_new m before (slots mine y n next) ≡ true
slots-once m mine y zero next before h = refl
slots-once m mine y (suc n) next before h = slot-step m mine y n next before (has_number y mine) refl h (λ next before g. slots-once m mine (y + 1) n next before g)

nothing-before : (ks : List ℕ) → AreOthers ks []
nothing-before [] = tt
nothing-before (k ∷ ks) = (refl, nothing-before ks)

-- the new order has each place once, if no item comes twice
pub order-once : (n m : ℕ) (ls : List Link) (f : List ℕ) → AreApart ls → is_each_new n [] f ≡ true → is_each_new m [] (far_order m ls f) ≡ true
order-once n m ls f a h =
    let mine = far_places m ls f in
    slots-once m mine 0 m mine [] (record {
      size = omega arith;
      once = places-once m ls f a (once-from n [] f h).once;
      low = places-below m ls f;
      new = nothing-before mine;
      among = all-in-itself mine;
      enough = count-all mine 0 m;
      stay = λ z p g. refl;
    })

size-slots : (mine : List ℕ) (y n : ℕ) (next : List ℕ) → length (slots mine y n next) ≡ n
size-slots mine y zero next = refl
size-slots mine y (suc n) next = let w = size-slots mine (y + 1) n (slots_left (has_number y mine) next) in omega arith

pub order-size : (m : ℕ) (ls : List Link) (f : List ℕ) → length (far_order m ls f) ≡ m
order-size m ls f = size-slots (far_places m ls f) 0 m (far_places m ls f)

-- ---- an order as a plan

has-at : (f : List ℕ) (x y : ℕ) → far_at (map Moved f) x ≡ Some y → has_number y f ≡ true
has-at [] x y h = absurd cc
has-at (k ∷ f) zero y h = let e : k ≡ y = cc in rw (e, eq-itself y) refl
has-at (k ∷ f) (suc x) y h = or-true (nat_eq y k) (has_number y f) (has-at f x y h)

apart-once : (f : List ℕ) → AreOnce f → AreApart (map Moved f)
apart-once [] o x z y h g = absurd cc
apart-once (k ∷ f) o zero zero y h g = refl
apart-once (k ∷ f) o zero (suc z) y h g =
    let e : y ≡ k = cc in
    absurd (not-both (has_number k f) (subst (λ i. has_number i f ≡ true) e (has-at f z y g)) o.0)
apart-once (k ∷ f) o (suc x) zero y h g =
    let e : y ≡ k = cc in
    absurd (not-both (has_number k f) (subst (λ i. has_number i f ≡ true) e (has-at f x y h)) o.0)
apart-once (k ∷ f) o (suc x) (suc z) y h g = ap suc (apart-once f o.1 x z y h g)

pub order-apart : (n : ℕ) (f : List ℕ) → is_each_new n [] f ≡ true → AreApart (map Moved f)
order-apart n f h = apart-once f (once-from n [] f h).once

pub no-fresh-order : (f : List ℕ) → fresh_count (map Moved f) ≡ 0
no-fresh-order [] = refl
no-fresh-order (k ∷ f) = no-fresh-order f

pub range-is : (k : ℕ) (ys : List ℕ) → is_range k ys ≡ true → ys ≡ range_with_len k (length ys)
range-is k [] h = refl
range-is k (y ∷ ys) h = of-tests (nat_eq k y) (is_range (k + 1) ys) refl h (λ g. range-is (k + 1) ys g)
  where
    of-tests : (a b : Bool) → nat_eq k y ≡ a → (a && b) ≡ true → (b ≡ true → ys ≡ range_with_len (k + 1) (length ys)) → y ∷ ys ≡ k ∷ range_with_len (k + 1) (length ys)
    of-tests true b e g deeper = let q : y ≡ k = sym (eq-is k y e) in ap (λ i. i ∷ ys) q ∙ ap (λ zs. k ∷ zs) (deeper g)
    of-tests false b e g deeper = absurd cc
