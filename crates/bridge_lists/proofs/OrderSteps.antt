-- The order that the far list gets, as the code puts it together.
use Rattle.std.proofs.Common.{◌≡◌, ℕ, zero, suc, ◌+◌, ◌-◌, ◌≤◌, ◌<◌, Bool, true, false, List, [], ◌∷◌, ◌++◌, length, drop, get_or, replicate, Option, Some, None, refl, sym, ap, ◌∙◌, arith, subst, append-nil}
use Rattle.std.specs.Prelude.{◌≢◌, if◌then◌else◌, ◌&&◌, ◌||◌, nat_eq, set}
use Rattle.std.proofs.lemmas.Bool.Decides.{nat_tests}
use Rattle.std.proofs.lemmas.List.{append_assoc, drop_more, drop_all, get_or-set_same, get_or-set_other, length-set}
use Rattle.hold_shapes.specs.declared.edit.ShapeEdit.{ShapeEdit}
use Rattle.hold_shapes.specs.declared.edit.ShapeEdit.TheVariants.{Reorder}
use Rattle.hold_shapes.specs.Plans.{has_number}
use Rattle.bridge_links.specs.declared.link.Link.{Link}
use Rattle.bridge_links.specs.Links.{link_at}
use Rattle.bridge_lists.specs.Carried.{far_place, with_first, far_places, slot, slots_left, slots, is_range, order_edit}

-- ---- the far places of items

with-first-behind : (o : Option ℕ) (ys : List ℕ) → with_first o [] ++ ys ≡ with_first o ys
with-first-behind None ys = refl
with-first-behind (Some y) ys = refl

pub places-next : (m i : ℕ) (ls : List Link) (items places more whole : List ℕ) (o : Option ℕ) → i < length items → o ≡ far_place m (link_at ls (get_or items i 0)) → more ≡ places ++ with_first o []
    → places ++ far_places m ls (drop i items) ≡ whole → more ++ far_places m ls (drop (i + 1) items) ≡ whole
places-next m i ls items places more whole o p e g h =
    ap (λ ys. ys ++ far_places m ls (drop (i + 1) items)) g
    ∙ (append_assoc places (with_first o []) (far_places m ls (drop (i + 1) items))
    ∙ (ap (λ ys. places ++ ys) (with-first-behind o (far_places m ls (drop (i + 1) items)))
    ∙ (ap (λ q. places ++ with_first q (far_places m ls (drop (i + 1) items))) e
    ∙ (sym (ap (λ f. places ++ far_places m ls f) (drop_more items i 0 p)) ∙ h))))

pub places-end : (m i : ℕ) (ls : List Link) (items places whole : List ℕ) → length items ≤ i → places ++ far_places m ls (drop i items) ≡ whole → places ≡ whole
places-end m i ls items places whole p h = sym (append-nil places) ∙ (ap (λ f. places ++ far_places m ls f) (sym (drop_all i items p)) ∙ h)

pub ruleset place_rules = (places-next, places-end)

-- ---- marks

-- the marks so far and the places that are left say which places are listed
abbrev pub AreMarked : ℕ → List Bool → ℕ → List ℕ → Type 0
AreMarked n marks i places = (k : ℕ) → k < n → (get_or marks k false || has_number k (drop i places)) ≡ has_number k places

eq-is : (a b : ℕ) → nat_eq a b ≡ true → a ≡ b
eq-is a b h = grind (arith, nat_tests)

eq-so : (a b : ℕ) → a ≡ b → nat_eq a b ≡ true
eq-so a b h = grind (arith, nat_tests)

eq-differs : (a b : ℕ) → nat_eq a b ≡ false → a ≢ b
eq-differs a b h e = let t : nat_eq a b ≡ true = eq-so a b e in let c : true ≡ false = sym t ∙ h in cc

either-way : (a b : Bool) → (a || (true || b)) ≡ true
either-way true b = refl
either-way false b = refl

pub marks-next : (n i : ℕ) (marks : List Bool) (places : List ℕ) → i < length places → length marks ≡ n → AreMarked n marks i places → AreMarked n (set marks (get_or places i 0) true) (i + 1) places
marks-next n i marks places p e h k q = of-test (nat_eq k (get_or places i 0)) refl
  where
    rest : has_number k (drop i places) ≡ (nat_eq k (get_or places i 0) || has_number k (drop (i + 1) places))
    rest = ap (λ ys. has_number k ys) (drop_more places i 0 p)

    before : (get_or marks k false || (nat_eq k (get_or places i 0) || has_number k (drop (i + 1) places))) ≡ has_number k places
    before = sym (ap (λ b. get_or marks k false || b) rest) ∙ h k q

    of-test : (b : Bool) → nat_eq k (get_or places i 0) ≡ b → (get_or (set marks (get_or places i 0) true) k false || has_number k (drop (i + 1) places)) ≡ has_number k places
    of-test true g =
        let same : get_or places i 0 ≡ k = sym (eq-is k (get_or places i 0) g) in
        let there : get_or (set marks (get_or places i 0) true) k false ≡ true =
        subst (λ j. get_or (set marks j true) k false ≡ true) (sym same) (get_or-set_same marks k true false (omega arith)) in
        let listed : true ≡ has_number k places =
        sym (either-way (get_or marks k false) (has_number k (drop (i + 1) places))) ∙ (sym (ap (λ b. get_or marks k false || (b || has_number k (drop (i + 1) places))) g) ∙ before) in
        ap (λ b. b || has_number k (drop (i + 1) places)) there ∙ listed
    of-test false g =
        let other : k ≢ get_or places i 0 = eq-differs k (get_or places i 0) g in
        let kept : get_or (set marks (get_or places i 0) true) k false ≡ get_or marks k false = get_or-set_other marks (get_or places i 0) k true false other in
        ap (λ b. b || has_number k (drop (i + 1) places)) kept
        ∙ (sym (ap (λ b. get_or marks k false || (b || has_number k (drop (i + 1) places))) g) ∙ before)

or-none : (b : Bool) → (b || false) ≡ b
or-none true = refl
or-none false = refl

pub marks-end : (n i k : ℕ) (marks : List Bool) (places : List ℕ) → length places ≤ i → AreMarked n marks i places → k < n → get_or marks k false ≡ has_number k places
marks-end n i k marks places p h q = sym (or-none (get_or marks k false)) ∙ (sym (ap (λ ys. get_or marks k false || has_number k ys) (drop_all i places p)) ∙ h k q)

pub set-past : (marks : List Bool) (k : ℕ) → length marks ≤ k → marks ≡ set marks k true
set-past [] k h = refl
set-past (m ∷ marks) zero h = absurd (omega arith)
set-past (m ∷ marks) (suc k) h = ap (λ ms. m ∷ ms) (set-past marks k (omega arith))

none-marked : (n k : ℕ) → get_or (replicate n false) k false ≡ false
none-marked zero k = refl
none-marked (suc n) zero = refl
none-marked (suc n) (suc k) = none-marked n k

pub marks-start : (n : ℕ) (places : List ℕ) → AreMarked n (replicate n false) 0 places
marks-start n places k h = ap (λ b. b || has_number k places) (none-marked n k)

pub ruleset mark_rules = (set-past, marks-start, marks-next, marks-end, length-set)

-- ---- what comes to each place

slots-step : (mine : List ℕ) (y n : ℕ) (next : List ℕ) → 0 < n → slots mine y n next ≡ slot (has_number y mine) y next ∷ slots mine (y + 1) (n - 1) (slots_left (has_number y mine) next)
slots-step mine y zero next h = absurd (omega arith)
slots-step mine y (suc n) next h = let e : suc n - 1 ≡ n = omega arith in rw e refl

pub slots-next : (mine order more whole : List ℕ) (b : Bool) (y n next after : ℕ) → y < n → b ≡ has_number y mine → more ≡ order ++ slot b y (drop next mine) ∷ [] → drop after mine ≡ slots_left b (drop next mine)
    → order ++ slots mine y (n - y) (drop next mine) ≡ whole → more ++ slots mine (y + 1) (n - (y + 1)) (drop after mine) ≡ whole
slots-next mine order more whole b y n next after p e g d h =
    let left : n - (y + 1) ≡ n - y - 1 = omega arith in
    let rest = slots mine (y + 1) (n - y - 1) (slots_left b (drop next mine)) in
    ap (λ ys. ys ++ slots mine (y + 1) (n - (y + 1)) (drop after mine)) g
    ∙ (append_assoc order (slot b y (drop next mine) ∷ []) (slots mine (y + 1) (n - (y + 1)) (drop after mine))
    ∙ (ap (λ k. order ++ slot b y (drop next mine) ∷ slots mine (y + 1) k (drop after mine)) left
    ∙ (ap (λ ys. order ++ slot b y (drop next mine) ∷ slots mine (y + 1) (n - y - 1) ys) d
    ∙ (ap (λ t. order ++ slot t y (drop next mine) ∷ slots mine (y + 1) (n - y - 1) (slots_left t (drop next mine))) e
    ∙ (sym (ap (λ ys. order ++ ys) (slots-step mine y (n - y) (drop next mine) (omega arith))) ∙ h)))))

pub slots-end : (mine order whole next : List ℕ) (y n : ℕ) → n ≤ y → order ++ slots mine y (n - y) next ≡ whole → order ≡ whole
slots-end mine order whole next y n p h =
    let none : n - y ≡ 0 = omega arith in
    sym (append-nil order) ∙ (ap (λ k. order ++ slots mine y k next) (sym none) ∙ h)

pub ruleset slots_rules = (slots-next, slots-end)

pub slot-other : (mine : List ℕ) (place : ℕ) (b : Bool) (next : ℕ) → b ≡ false → place ≡ slot b place (drop next mine)
slot-other mine place true next h = absurd cc
slot-other mine place false next h = refl

pub left-other : (mine : List ℕ) (b : Bool) (next : ℕ) → b ≡ false → drop next mine ≡ slots_left b (drop next mine)
left-other mine true next h = absurd cc
left-other mine false next h = refl

pub slot-past : (mine : List ℕ) (place : ℕ) (b : Bool) (next : ℕ) → length mine ≤ next → place ≡ slot b place (drop next mine)
slot-past mine place b next h = of-test b
  where
    of-test : (b : Bool) → place ≡ slot b place (drop next mine)
    of-test true = let e : drop next mine ≡ [] = drop_all next mine h in rw e refl
    of-test false = refl

pub left-past : (mine : List ℕ) (b : Bool) (next : ℕ) → length mine ≤ next → drop next mine ≡ slots_left b (drop next mine)
left-past mine b next h = of-test b
  where
    of-test : (b : Bool) → drop next mine ≡ slots_left b (drop next mine)
    of-test true = let e : drop next mine ≡ [] = drop_all next mine h in rw e refl
    of-test false = refl

pub slot-mine : (mine : List ℕ) (place : ℕ) (b : Bool) (next : ℕ) → next < length mine → b ≡ true → get_or mine next 0 ≡ slot b place (drop next mine)
slot-mine mine place true next h e = let d = drop_more mine next 0 h in rw d refl
slot-mine mine place false next h e = absurd cc

pub left-mine : (mine : List ℕ) (b : Bool) (next : ℕ) → next < length mine → b ≡ true → drop (next + 1) mine ≡ slots_left b (drop next mine)
left-mine mine true next h e = let d = drop_more mine next 0 h in rw d refl
left-mine mine false next h e = absurd cc

pub ruleset slot_rules = (slot-other, left-other, slot-past, left-past, slot-mine, left-mine)

-- ---- whether an order is that of the places themselves

first-both : (a b c : Bool) → a ≡ true → (a && b) ≡ c → b ≡ c
first-both true b c e h = h
first-both false b c e h = absurd cc

first-false : (a b c : Bool) → a ≡ false → (a && b) ≡ c → false ≡ c
first-false true b c e h = absurd cc
first-false false b c e h = h

range-at : (ps : List ℕ) (i : ℕ) (whole : Bool) → i < length ps → is_range i (drop i ps) ≡ whole → (nat_eq i (get_or ps i 0) && is_range (i + 1) (drop (i + 1) ps)) ≡ whole
range-at ps i whole p h = sym (ap (λ ys. is_range i ys) (drop_more ps i 0 p)) ∙ h

pub range-next : (ps : List ℕ) (i : ℕ) (whole : Bool) → i < length ps → get_or ps i 0 ≡ i → is_range i (drop i ps) ≡ whole → is_range (i + 1) (drop (i + 1) ps) ≡ whole
range-next ps i whole p e h =
    let t : nat_eq i (get_or ps i 0) ≡ true = eq-so i (get_or ps i 0) (sym e) in
    first-both (nat_eq i (get_or ps i 0)) (is_range (i + 1) (drop (i + 1) ps)) whole t (range-at ps i whole p h)

pub range-other : (ps : List ℕ) (i : ℕ) (whole : Bool) → i < length ps → (get_or ps i 0 ≡ i → ⊥) → is_range i (drop i ps) ≡ whole → false ≡ whole
range-other ps i whole p e h =
    first-false (nat_eq i (get_or ps i 0)) (is_range (i + 1) (drop (i + 1) ps)) whole (of-test (nat_eq i (get_or ps i 0)) refl) (range-at ps i whole p h)
  where
    of-test : (b : Bool) → nat_eq i (get_or ps i 0) ≡ b → b ≡ false
    of-test true g = absurd (e (sym (eq-is i (get_or ps i 0) g)))
    of-test false g = refl

pub range-end : (ps : List ℕ) (i : ℕ) (whole : Bool) → length ps ≤ i → is_range i (drop i ps) ≡ whole → true ≡ whole
range-end ps i whole p h = sym (ap (λ ys. is_range i ys) (drop_all i ps p)) ∙ h

pub ruleset range_rules = (range-next, range-other, range-end)

pub order-none : (g : List ℕ) (es : List ShapeEdit) → is_range 0 g ≡ true → es ≡ es ++ order_edit g
order-none g es h = sym (ap (λ (t : Bool). es ++ (if t then [] else Reorder g ∷ [])) h ∙ append-nil es)

pub order-one : (g : List ℕ) (es : List ShapeEdit) → is_range 0 g ≡ false → es ++ Reorder g ∷ [] ≡ es ++ order_edit g
order-one g es h = sym (ap (λ (t : Bool). es ++ (if t then [] else Reorder g ∷ [])) h)

pub ruleset order_rules = (order-none, order-one)
