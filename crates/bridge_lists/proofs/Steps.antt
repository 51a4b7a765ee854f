-- What is carried, as the code puts it together.
use Rattle.std.proofs.Common.{◌≡◌, ℕ, zero, suc, ◌+◌, ◌-◌, ◌≤◌, ◌<◌, Bool, true, false, List, [], ◌∷◌, ◌++◌, length, drop, Option, Some, None, refl, sym, ap, ◌∙◌, arith, subst, append-nil}
use Rattle.std.specs.Prelude.{if◌then◌else◌, nat_eq, nat_lt, nat_le, option_map}
use Rattle.std.proofs.lemmas.List.{append_assoc}
use Rattle.std.proofs.lemmas.Bool.Decides.{nat_tests}
use Rattle.hold_shapes.specs.declared.edit.ShapeEdit.{ShapeEdit}
use Rattle.hold_shapes.specs.declared.edit.ShapeEdit.TheVariants.{Ins, Del, MoveItem}
use Rattle.bridge_links.specs.declared.link.Link.{Link}
use Rattle.bridge_links.specs.Links.{place_of, link_at, first_stay, far_planned, moved_place}
use Rattle.bridge_links.proofs.Planned.{near-length}
use Rattle.bridge_lists.proofs.Plans.{size-moved}
use Rattle.bridge_lists.specs.Carried.{Carried, behind, place_below, far_place, move_edit, put_at, gap_before, gap_for, moved_to, moved_from, carried_move}
use Rattle.bridge_lists.specs.Carried.{park_edits, park_links, park_free, parked, del_edit}

-- ---- a test that is known

if-true : {A : Type 0} (b : Bool) (x y : A) → b ≡ true → (if b then x else y) ≡ x
if-true true x y h = refl
if-true false x y h = absurd cc

if-false : {A : Type 0} (b : Bool) (x y : A) → b ≡ false → (if b then x else y) ≡ y
if-false true x y h = absurd cc
if-false false x y h = refl

eq-true : (a b : ℕ) → a ≡ b → nat_eq a b ≡ true
eq-true a b h = grind (arith, nat_tests)

eq-false : (a b : ℕ) → (a ≡ b → ⊥) → nat_eq a b ≡ false
eq-false a b h = of-test (nat_eq a b) refl
  where
    of-test : (t : Bool) → nat_eq a b ≡ t → t ≡ false
    of-test true e = absurd (h (grind (arith, nat_tests)))
    of-test false e = refl

-- ---- places and moves

pub below-there : (m y : ℕ) → y < m → Some y ≡ place_below m (Some y)
below-there m y h = sym (if-true (nat_lt y m) (Some y) None (grind (arith, nat_tests)))

pub below-past : (m y : ℕ) → m ≤ y → None ≡ place_below m (Some y)
below-past m y h = sym (if-false (nat_lt y m) (Some y) None (grind (arith, nat_tests)))

pub gap-front : (m y z : ℕ) → z ≤ y → z ≡ gap_before m y (Some z)
gap-front m y z h = sym (if-true (nat_le z y) z (z - 1) (grind (arith, nat_tests)))

pub gap-back : (m y z : ℕ) → y < z → z - 1 ≡ gap_before m y (Some z)
gap-back m y z h = sym (if-false (nat_le z y) z (z - 1) (grind (arith, nat_tests)))

pub ruleset place_rules = (below-there, below-past, gap-front, gap-back)

pub move-none : (y g : ℕ) (es : List ShapeEdit) → y ≡ g → es ≡ es ++ move_edit y g
move-none y g es h = sym (ap (λ (l : List ShapeEdit). es ++ l) (if-true (nat_eq y g) [] (MoveItem y g ∷ []) (eq-true y g h)) ∙ append-nil es)

pub move-one : (y g : ℕ) (es : List ShapeEdit) → (y ≡ g → ⊥) → es ++ MoveItem y g ∷ [] ≡ es ++ move_edit y g
move-one y g es h = sym (ap (λ (l : List ShapeEdit). es ++ l) (if-false (nat_eq y g) [] (MoveItem y g ∷ []) (eq-false y g h)))

pub del-none : (d : ℕ) (es : List ShapeEdit) → d ≡ 0 → es ≡ es ++ del_edit d
del-none d es h = sym (ap (λ (l : List ShapeEdit). es ++ l) (if-true (nat_eq d 0) [] (Del d ∷ []) (eq-true d 0 h)) ∙ append-nil es)

pub del-one : (d : ℕ) (es : List ShapeEdit) → (d ≡ 0 → ⊥) → es ++ Del d ∷ [] ≡ es ++ del_edit d
del-one d es h = sym (ap (λ (l : List ShapeEdit). es ++ l) (if-false (nat_eq d 0) [] (Del d ∷ []) (eq-false d 0 h)))

pub ruleset edit_rules = (move-none, move-one, del-none, del-one)

pub move-found : (i j m y : ℕ) (ls : List Link) (q : Carried) → Some y ≡ far_place m (link_at ls i) → q ≡ moved_from i j m ls y → carried_move i j m ls ≡ Some q
move-found i j m y ls q h e = ap (λ o. option_map (moved_from i j m ls) o) (sym h) ∙ ap Some (sym e)

pub move-lost : (i j m : ℕ) (ls : List Link) → None ≡ far_place m (link_at ls i) → carried_move i j m ls ≡ None
move-lost i j m ls h = ap (λ o. option_map (moved_from i j m ls) o) (sym h)

pub ruleset carry_rules = (move-found, move-lost)

pub move-same : (i j m y : ℕ) (ls : List Link) (q : Carried) → i ≡ j → q ≡ ([], ls, m) → q ≡ moved_from i j m ls y
move-same i j m y ls q h e = e ∙ sym (if-true (nat_eq i j) ([], ls, m) (moved_to i j m ls y (gap_for m j (put_at i j ls) y)) (eq-true i j h))

pub move-other : (i j m y : ℕ) (ls : List Link) (q : Carried) → (i ≡ j → ⊥) → q ≡ moved_to i j m ls y (gap_for m j (put_at i j ls) y) → q ≡ moved_from i j m ls y
move-other i j m y ls q h e = e ∙ sym (if-false (nat_eq i j) ([], ls, m) (moved_to i j m ls y (gap_for m j (put_at i j ls) y)) (eq-false i j h))

pub ruleset move_rules = (move-same, move-other)

pub put-size : (i j : ℕ) (ls put : List Link) → i < length ls → put ≡ put_at i j ls → length put ≡ length ls
put-size i j ls put h e = ap (λ (ps : List Link). length ps) e ∙ (near-length 0 (moved_place (length ls) i j) ls ∙ size-moved (length ls) i j h)

pub ruleset put_rules = (put-size)

-- ---- parking

behind-more : (es fs : List ShapeEdit) (q : Carried) → behind (es ++ fs) q ≡ behind es (behind fs q)
behind-more es fs q = ap (λ (l : List ShapeEdit). (l, q.1, q.2)) (append_assoc es fs q.0)

parked-step : (m x n f : ℕ) (ls : List Link) → 0 < n → parked m x n f ls
    ≡ behind (park_edits f (far_place m (link_at ls (x - 1)))) (parked m (x - 1) (n - 1) (park_free f (far_place m (link_at ls (x - 1)))) (park_links m f ls (far_place m (link_at ls (x - 1)))))
parked-step m x zero f ls h = absurd (omega arith)
parked-step m x (suc c) f ls h = let e : suc c - 1 ≡ c = omega arith in rw e refl

pub park-next : (m size count k f g at : ℕ) (ls ks : List Link) (es fs : List ShapeEdit) (whole : Carried) → k < count → at ≡ size - k - 1
    → fs ≡ es ++ park_edits f (far_place m (link_at ls at)) → ks ≡ park_links m f ls (far_place m (link_at ls at)) → g ≡ park_free f (far_place m (link_at ls at))
    → behind es (parked m (size - k) (count - k) f ls) ≡ whole → behind fs (parked m (size - (k + 1)) (count - (k + 1)) g ks) ≡ whole
park-next m size count k f g at ls ks es fs whole p a e h d w =
    let x : size - (k + 1) ≡ size - k - 1 = omega arith in
    let n : count - (k + 1) ≡ count - k - 1 = omega arith in
    rw (e, h, d, x, n, a) (
    behind-more es (park_edits f (far_place m (link_at ls (size - k - 1)))) (parked m (size - k - 1) (count - k - 1) (park_free f (far_place m (link_at ls (size - k - 1)))) (park_links m f ls (far_place m (link_at ls (size - k - 1)))))
    ∙ (ap (λ q. behind es q) (sym (parked-step m (size - k) (count - k) f ls (omega arith))) ∙ w)
    )

pub park-end : (m x count k f : ℕ) (ls : List Link) (es : List ShapeEdit) (whole : Carried) → count ≤ k → behind es (parked m x (count - k) f ls) ≡ whole → (es, ls, f) ≡ whole
park-end m x count k f ls es whole p w =
    let n : count - k ≡ 0 = omega arith in
    ap (λ (l : List ShapeEdit). (l, ls, f)) (sym (append-nil es)) ∙ (ap (λ c. behind es (parked m x c f ls)) (sym n) ∙ w)

pub ruleset park_rules = (park-next, park-end)

pub first-behind : (old es : List ShapeEdit) (ks : List Link) (f : ℕ) (q : Carried) → old ≡ [] → (es, ks, f) ≡ behind old q → es ≡ q.0
first-behind old es ks f q z e = ap (λ (t : Carried). t.0) e ∙ ap (λ (o : List ShapeEdit). o ++ q.0) z

pub second-behind : (old es : List ShapeEdit) (ks : List Link) (f : ℕ) (q : Carried) → (es, ks, f) ≡ behind old q → ks ≡ q.1
second-behind old es ks f q e = ap (λ (t : Carried). t.1) e

pub third-behind : (old es : List ShapeEdit) (ks : List Link) (f : ℕ) (q : Carried) → (es, ks, f) ≡ behind old q → f ≡ q.2
third-behind old es ks f q e = ap (λ (t : Carried). t.2) e

pub ruleset behind_rules = (first-behind, second-behind, third-behind)
