-- What a subtree that is removed or inserted does to the numbers of children.
use Rattle.std.proofs.Common.{◌≡◌, ℕ, ◌+◌, ◌-◌, ◌<◌, ◌≤◌, suc, zero, Bool, true, false, List, [], ◌∷◌, ◌++◌, length, take, drop, get_or, Option, Some, None, refl, sym, ap, ◌∙◌, subst, arith}
use Rattle.std.specs.Prelude.{if◌then◌else◌, nat_lt, nat_eq}
use Rattle.std.proofs.lemmas.Bool.Decides.{nat_tests}
use Rattle.hold_shapes.specs.Trees.{descendants, children_of, children, child_from, child, end_of}
use Rattle.hold_shapes.specs.Plans.{remove_part, insert_part}
use Rattle.hold_shapes.proofs.ValidDepths.{Low, end-zero, end-suc}
use Rattle.law_shapes.proofs.Content.{child-in}
use Rattle.law_shapes.proofs.SamePrefix.{child_from-step}
use Rattle.std.proofs.lemmas.Bool.{lt-ltb}

pub child-test : (d : ℕ) → nat_eq (d + 1) (d + 1) ≡ true
child-test d = grind (arith, nat_tests)

pub no_child-test : (d e : ℕ) → d + 2 ≤ e → nat_eq e (d + 1) ≡ false
no_child-test d e h = grind (arith, nat_tests)

-- ---- a subtree inserted

-- nodes that are deeper than a child are no children
children-deeper : (d : ℕ) (bs es : List ℕ) → Low (d + 2) bs → children_of d (bs ++ es) ≡ children_of d es
children-deeper d [] es l = refl
children-deeper d (b ∷ bs) es l =
    rw (lt-ltb d b (omega (arith, l.0)), no_child-test d b l.0) (children-deeper d bs es l.1)

count-step : (t u : Bool) (m k n : ℕ) (P : Type 0) → (P → m ≡ suc n) → (t ≡ true → P)
    → t ≡ true → (if t then (if u then suc m else m) else k) ≡ suc (if t then (if u then suc n else n) else 0)
count-step true true m k n P f g h = ap suc (f (g h))
count-step true false m k n P f g h = f (g h)
count-step false u m k n P f g h = cc

pub within-descendants : (t : Bool) (n k : ℕ) → suc n ≤ (if t then suc k else 0) → (t ≡ true) × (n ≤ k)
within-descendants true n k h = (refl, omega arith)
within-descendants false n k h = absurd (omega arith)

-- a subtree inserted among the descendants of a node, as one of its children, is one child more
children-insert : (d : ℕ) (bs es : List ℕ) (n : ℕ) → Low (d + 2) bs → n ≤ descendants d es → children_of d (insert_part n ((d + 1) ∷ bs) es) ≡ suc (children_of d es)
children-insert d bs es zero l h =
    rw (lt-ltb d (d + 1) (omega arith), child-test d) (ap suc (children-deeper d bs es l))
children-insert d bs [] (suc n) l h = absurd (omega arith)
children-insert d bs (e ∷ es) (suc n) l h =
    let w = within-descendants (nat_lt d e) n (descendants d es) h in
    count-step (nat_lt d e) (nat_eq e (d + 1)) (children_of d (insert_part n ((d + 1) ∷ bs) es)) 0 (children_of d es) (n ≤ descendants d es)
    (λ k. children-insert d bs es n l k) (λ k. w.1) w.0

-- inserted after all descendants, it is the last child
child-last-true : (u : Bool) (d e at i k : ℕ) (rest : List ℕ) → nat_lt d e ≡ true → nat_eq e (d + 1) ≡ u
    → child_from (at + 1) d i rest ≡ Some (at + 1 + k) → child_from at d (if u then suc i else i) (e ∷ rest) ≡ Some (at + suc k)
child-last-true true d e at i k rest h j ih =
    let z : nat_eq (suc i) 0 ≡ false = grind (arith, nat_tests) in
    let less : suc i - 1 ≡ i = omega arith in
    let same : at + 1 + k ≡ at + suc k = omega arith in
    rw (h, j, z, less) (ih ∙ ap Some same)
child-last-true false d e at i k rest h j ih =
    let same : at + 1 + k ≡ at + suc k = omega arith in
    rw (h, j) (ih ∙ ap Some same)

child-last-step : (t : Bool) (at d e : ℕ) (bs es : List ℕ) → nat_lt d e ≡ t
    → child_from (at + 1) d (children_of d es) (insert_part (descendants d es) ((d + 1) ∷ bs) es) ≡ Some (at + 1 + descendants d es)
    → child_from at d (if t then (if nat_eq e (d + 1) then suc (children_of d es) else children_of d es) else 0)
    (insert_part (if t then suc (descendants d es) else 0) ((d + 1) ∷ bs) (e ∷ es)) ≡ Some (at + (if t then suc (descendants d es) else 0))
child-last-step true at d e bs es h ih =
    child-last-true (nat_eq e (d + 1)) d e at (children_of d es) (descendants d es) (insert_part (descendants d es) ((d + 1) ∷ bs) es) h refl ih
child-last-step false at d e bs es h ih =
    let same : at ≡ at + 0 = omega arith in
    rw (lt-ltb d (d + 1) (omega arith), child-test d) (ap Some same)

child-last : (at d : ℕ) (bs es : List ℕ) → child_from at d (children_of d es) (insert_part (descendants d es) ((d + 1) ∷ bs) es) ≡ Some (at + descendants d es)
child-last at d bs [] =
    let same : at ≡ at + 0 = omega arith in
    rw (lt-ltb d (d + 1) (omega arith), child-test d) (ap Some same)
child-last at d bs (e ∷ es) = child-last-step (nat_lt d e) at d e bs es refl (child-last (at + 1) d bs es)

-- inserted before child j, it becomes child j
pub number-zero : (t u v : Bool) (at i : ℕ) (o1 o2 : Option ℕ) → nat_eq i 0 ≡ v → (o1 ≡ Some (at + 0) → ⊥) → (o2 ≡ Some (at + 0) → ⊥)
    → (if t then (if u then (if v then Some at else o1) else o2) else None) ≡ Some (at + 0) → nat_eq i 0 ≡ true
number-zero true true true at i o1 o2 h f g is = h
number-zero true true false at i o1 o2 h f g is = absurd (f is)
number-zero true false v at i o1 o2 h f g is = absurd (g is)
number-zero false u v at i o1 o2 h f g is = cc

pub not-before : (at d i : ℕ) (es : List ℕ) → child_from (at + 1) d i es ≡ Some (at + 0) → ⊥
not-before at d i es e = let up : at + 1 ≤ at + 0 = (child-in (at + 1) d i (at + 0) es e).0 in omega arith

-- what holds of a child one place later, as it is counted from there
pub next-place : (at n : ℕ) (P : ℕ → Type 0) → P (at + suc n) → P (at + 1 + n)
next-place at n P h = let same : at + suc n ≡ at + 1 + n = omega arith in subst P same h

child-here : (at d i n : ℕ) (bs es : List ℕ) → child_from at d i es ≡ Some (at + n) → child_from at d i (insert_part n ((d + 1) ∷ bs) es) ≡ Some (at + n)
child-here at d i n bs [] is = cc
child-here at d i zero bs (e ∷ es) is =
    let z = number-zero (nat_lt d e) (nat_eq e (d + 1)) (nat_eq i 0) at i (child_from (at + 1) d (i - 1) es) (child_from (at + 1) d i es) refl
    (not-before at d (i - 1) es) (not-before at d i es) is in
    let same : at ≡ at + 0 = omega arith in
    rw (lt-ltb d (d + 1) (omega arith), child-test d, z) (ap Some same)
child-here at d i (suc n) bs (e ∷ es) is =
    let same : at + 1 + n ≡ at + suc n = omega arith in
    child_from-step (nat_lt d e) (nat_eq e (d + 1)) (nat_eq i 0) at (at + suc n) (child_from (at + 1) d (i - 1) es) (child_from (at + 1) d i es)
    (child_from (at + 1) d (i - 1) (insert_part n ((d + 1) ∷ bs) es)) (child_from (at + 1) d i (insert_part n ((d + 1) ∷ bs) es))
    (λ h. child-here (at + 1) d (i - 1) n bs es (next-place at n (λ m. child_from (at + 1) d (i - 1) es ≡ Some m) h) ∙ ap Some same)
    (λ h. child-here (at + 1) d i n bs es (next-place at n (λ m. child_from (at + 1) d i es ≡ Some m) h) ∙ ap Some same) is

-- ---- a subtree removed

skip-step : (t : Bool) (d e : ℕ) (es : List ℕ) → nat_lt (d + 1) e ≡ t → children_of d (drop (descendants (d + 1) es) es) ≡ children_of d es
    → children_of d (drop (if t then suc (descendants (d + 1) es) else 0) (e ∷ es)) ≡ children_of d (e ∷ es)
skip-step true d e es h ih =
    let more : d + 2 ≤ e = grind (arith, nat_tests) in
    rw (lt-ltb d e (omega arith), no_child-test d e more) ih
skip-step false d e es h ih = refl

pub children-skip : (d : ℕ) (es : List ℕ) → children_of d (drop (descendants (d + 1) es) es) ≡ children_of d es
children-skip d [] = refl
children-skip d (e ∷ es) = skip-step (nat_lt (d + 1) e) d e es refl (children-skip d es)

first-child : (t u v : Bool) (at : ℕ) (o1 o2 : Option ℕ) → (o1 ≡ Some (at + 0) → ⊥) → (o2 ≡ Some (at + 0) → ⊥)
    → (if t then (if u then (if v then Some at else o1) else o2) else None) ≡ Some (at + 0) → (t ≡ true) × (u ≡ true)
first-child true true v at o1 o2 f g is = (refl, refl)
first-child true false v at o1 o2 f g is = absurd (g is)
first-child false u v at o1 o2 f g is = cc

remove-step : (t u v : Bool) (at n m k : ℕ) (o1 o2 : Option ℕ) → (o1 ≡ Some (at + suc n) → m ≡ suc k) → (o2 ≡ Some (at + suc n) → m ≡ suc k)
    → (if t then (if u then (if v then Some at else o1) else o2) else None) ≡ Some (at + suc n)
    → (if t then (if u then suc m else m) else 0) ≡ suc (if t then (if u then suc k else k) else 0)
remove-step true true true at n m k o1 o2 f g is = let same : at ≡ at + suc n = cc in absurd (omega arith)
remove-step true true false at n m k o1 o2 f g is = ap suc (f is)
remove-step true false v at n m k o1 o2 f g is = g is
remove-step false u v at n m k o1 o2 f g is = cc

-- without the subtree of one of its children, a node has one child less
children-remove : (at d i n : ℕ) (es : List ℕ) → child_from at d i es ≡ Some (at + n) → children_of d es ≡ suc (children_of d (remove_part n (end_of es n) es))
children-remove at d i n [] is = cc
children-remove at d i zero (e ∷ es) is =
    let w = first-child (nat_lt d e) (nat_eq e (d + 1)) (nat_eq i 0) at (child_from (at + 1) d (i - 1) es) (child_from (at + 1) d i es)
    (not-before at d (i - 1) es) (not-before at d i es) is in
    let same : e ≡ d + 1 = grind (arith, nat_tests, w.1) in
    let P : ℕ → Type 0 = λ x. children_of d (drop (descendants x es) es) ≡ children_of d es in
    rw (w.0, w.1, end-zero e es) (ap suc (sym (subst P (sym same) (children-skip d es))))
children-remove at d i (suc n) (e ∷ es) is =
    rw (end-suc e es n)
    (remove-step (nat_lt d e) (nat_eq e (d + 1)) (nat_eq i 0) at n (children_of d es) (children_of d (remove_part n (end_of es n) es))
    (child_from (at + 1) d (i - 1) es) (child_from (at + 1) d i es)
    (λ h. children-remove (at + 1) d (i - 1) n es (next-place at n (λ m. child_from (at + 1) d (i - 1) es ≡ Some m) h))
    (λ h. children-remove (at + 1) d i n es (next-place at n (λ m. child_from (at + 1) d i es ≡ Some m) h)) is)

-- ---- the same in a tree, at the node p

pub before-part : (X : Type 0) (d : X) (xs zs : List X) (t p : ℕ) → p < t → p < length xs → get_or (take t xs ++ zs) p d ≡ get_or xs p d
before-part X d [] zs t p h k = absurd (omega arith)
before-part X d (x ∷ xs) zs zero p h k = absurd (omega arith)
before-part X d (x ∷ xs) zs (suc t) zero h k = refl
before-part X d (x ∷ xs) zs (suc t) (suc p) h k = before-part X d xs zs t p (omega arith) (omega arith)

pub drop-insert : (part ds : List ℕ) (k n : ℕ) → k ≤ length ds → drop k (insert_part (k + n) part ds) ≡ insert_part n part (drop k ds)
drop-insert part ds zero n h = let e : 0 + n ≡ n = omega arith in rw e refl
drop-insert part [] (suc k) n h = absurd (omega arith)
drop-insert part (d ∷ ds) (suc k) n h = let e : suc k + n ≡ suc (k + n) = omega arith in rw e (drop-insert part ds k n (omega arith))

pub drop-remove : (ds : List ℕ) (k n : ℕ) → k ≤ length ds → drop k (remove_part (k + n) (end_of ds (k + n)) ds) ≡ remove_part n (end_of (drop k ds) n) (drop k ds)
drop-remove ds zero n h = let e : 0 + n ≡ n = omega arith in rw e refl
drop-remove [] (suc k) n h = absurd (omega arith)
drop-remove (d ∷ ds) (suc k) n h =
    let e : suc k + n ≡ suc (k + n) = omega arith in
    rw e (rw (end-suc d ds (k + n)) (drop-remove ds k n (omega arith)))

pub children-more : (ds bs : List ℕ) (p n : ℕ) → p < length ds → Low (get_or ds p 0 + 2) bs → n ≤ descendants (get_or ds p 0) (drop (p + 1) ds)
    → children (insert_part (p + 1 + n) ((get_or ds p 0 + 1) ∷ bs) ds) p ≡ suc (children ds p)
children-more ds bs p n h l k =
    let d = get_or ds p 0 in
    let same : get_or (insert_part (p + 1 + n) ((d + 1) ∷ bs) ds) p 0 ≡ d = before-part ℕ 0 ds ((d + 1) ∷ (bs ++ drop (p + 1 + n) ds)) (p + 1 + n) p (omega arith) h in
    let rest : drop (p + 1) (insert_part (p + 1 + n) ((d + 1) ∷ bs) ds) ≡ insert_part n ((d + 1) ∷ bs) (drop (p + 1) ds) = drop-insert ((d + 1) ∷ bs) ds (p + 1) n (omega arith) in
    rw (same, rest) (children-insert d bs (drop (p + 1) ds) n l k)

pub child-at_end : (ds bs : List ℕ) (p : ℕ) → p < length ds
    → child (insert_part (end_of ds p) ((get_or ds p 0 + 1) ∷ bs) ds) p (children ds p) ≡ Some (end_of ds p)
child-at_end ds bs p h =
    let d = get_or ds p 0 in
    let n = descendants d (drop (p + 1) ds) in
    let same : get_or (insert_part (p + 1 + n) ((d + 1) ∷ bs) ds) p 0 ≡ d = before-part ℕ 0 ds ((d + 1) ∷ (bs ++ drop (p + 1 + n) ds)) (p + 1 + n) p (omega arith) h in
    let rest : drop (p + 1) (insert_part (p + 1 + n) ((d + 1) ∷ bs) ds) ≡ insert_part n ((d + 1) ∷ bs) (drop (p + 1) ds) = drop-insert ((d + 1) ∷ bs) ds (p + 1) n (omega arith) in
    rw (same, rest) (child-last (p + 1) d bs (drop (p + 1) ds))

pub child-at_place : (ds bs : List ℕ) (p i n : ℕ) → p < length ds → child ds p i ≡ Some (p + 1 + n)
    → child (insert_part (p + 1 + n) ((get_or ds p 0 + 1) ∷ bs) ds) p i ≡ Some (p + 1 + n)
child-at_place ds bs p i n h is =
    let d = get_or ds p 0 in
    let same : get_or (insert_part (p + 1 + n) ((d + 1) ∷ bs) ds) p 0 ≡ d = before-part ℕ 0 ds ((d + 1) ∷ (bs ++ drop (p + 1 + n) ds)) (p + 1 + n) p (omega arith) h in
    let rest : drop (p + 1) (insert_part (p + 1 + n) ((d + 1) ∷ bs) ds) ≡ insert_part n ((d + 1) ∷ bs) (drop (p + 1) ds) = drop-insert ((d + 1) ∷ bs) ds (p + 1) n (omega arith) in
    rw (same, rest) (child-here (p + 1) d i n bs (drop (p + 1) ds) is)

pub children-less : (ds : List ℕ) (p i n : ℕ) → p < length ds → child ds p i ≡ Some (p + 1 + n)
    → children ds p ≡ suc (children (remove_part (p + 1 + n) (end_of ds (p + 1 + n)) ds) p)
children-less ds p i n h is =
    let d = get_or ds p 0 in
    let c = p + 1 + n in
    let same : get_or (remove_part c (end_of ds c) ds) p 0 ≡ d = before-part ℕ 0 ds (drop (end_of ds c) ds) c p (omega arith) h in
    let rest : drop (p + 1) (remove_part c (end_of ds c) ds) ≡ remove_part n (end_of (drop (p + 1) ds) n) (drop (p + 1) ds) = drop-remove ds (p + 1) n (omega arith) in
    rw (same, rest) (children-remove (p + 1) d i n (drop (p + 1) ds) is)

within-step : (t u v : Bool) (at n k : ℕ) (o1 o2 : Option ℕ) → (o1 ≡ Some (at + suc n) → n ≤ k) → (o2 ≡ Some (at + suc n) → n ≤ k)
    → (if t then (if u then (if v then Some at else o1) else o2) else None) ≡ Some (at + suc n) → suc n ≤ (if t then suc k else 0)
within-step true true true at n k o1 o2 f g is = let same : at ≡ at + suc n = cc in absurd (omega arith)
within-step true true false at n k o1 o2 f g is = let x = f is in omega arith
within-step true false v at n k o1 o2 f g is = let x = g is in omega arith
within-step false u v at n k o1 o2 f g is = cc

-- a child is among the descendants
pub child-descendant : (at d i n : ℕ) (es : List ℕ) → child_from at d i es ≡ Some (at + n) → n ≤ descendants d es
child-descendant at d i n [] is = cc
child-descendant at d i zero (e ∷ es) is = omega arith
child-descendant at d i (suc n) (e ∷ es) is =
    within-step (nat_lt d e) (nat_eq e (d + 1)) (nat_eq i 0) at n (descendants d es) (child_from (at + 1) d (i - 1) es) (child_from (at + 1) d i es)
    (λ h. child-descendant (at + 1) d (i - 1) n es (next-place at n (λ m. child_from (at + 1) d (i - 1) es ≡ Some m) h))
    (λ h. child-descendant (at + 1) d i n es (next-place at n (λ m. child_from (at + 1) d i es ≡ Some m) h)) is
