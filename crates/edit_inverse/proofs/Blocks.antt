-- A subtree as a block of a tree: where it ends, and how it is taken out again.
use Rattle.std.proofs.Common.{◌≡◌, ℕ, ◌+◌, ◌-◌, ◌<◌, ◌≤◌, suc, zero, Bool, true, false, List, [], ◌∷◌, ◌++◌, length, take, drop, get_or, Option, Some, None, refl, sym, ap, ◌∙◌, subst, arith}
use Rattle.std.specs.Prelude.{if◌then◌else◌, nat_lt, nat_eq, slice_range}
use Rattle.std.proofs.lemmas.Bool.Decides.{nat_tests}
use Rattle.std.proofs.lemmas.List.{length-append, length-take, length-drop, drop-drop}
use Rattle.hold_shapes.specs.Trees.{child, child_from, children_of, end_of, descendants}
use Rattle.hold_shapes.specs.Plans.{insert_part, remove_part, move_part, place_for_child}
use Rattle.hold_shapes.proofs.ValidDepths.{Low, HeadAtMost, PutOk, end-zero, end-suc}
use Rattle.hold_shapes.proofs.ChildPlaces.{child-at}
use Rattle.law_shapes.proofs.Children.{within-descendants, before-part}
use Rattle.law_shapes.proofs.OtherChildren.{IsSlot, slot-left, put-back-same, length-between}
use Rattle.law_shapes.proofs.Lawful.{past}
use Rattle.law_shapes.proofs.Parents.{next}

-- ---- a part put into a list and taken out again

pub slice-inserted : {X : Type 0} (t : ℕ) (part xs : List X) (e : ℕ) → t ≤ length xs → e ≡ t + length part → slice_range (insert_part t part xs) t e ≡ part
slice-inserted t part xs e h z = let P : ℕ → Type 0 = λ n. slice_range (insert_part t part xs) t n ≡ part in subst P (sym z) (slice-at t part xs h)
  where
    take-whole : {X : Type 0} (part zs : List X) → take (length part) (part ++ zs) ≡ part
    take-whole [] zs = refl
    take-whole (x ∷ part) zs = ap (λ (l : List _). x ∷ l) (take-whole part zs)

    slice-at : {X : Type 0} (t : ℕ) (part xs : List X) → t ≤ length xs → slice_range (insert_part t part xs) t (t + length part) ≡ part
    slice-at zero part xs h = let n : 0 + length part - 0 ≡ length part = omega arith in rw n (take-whole part xs)
    slice-at (suc t) part [] h = absurd (omega arith)
    slice-at (suc t) part (x ∷ xs) h =
        let n : suc t + length part - suc t ≡ t + length part - t = omega arith in
        rw n (slice-at t part xs (omega arith))

pub remove-inserted : {X : Type 0} (t : ℕ) (part xs : List X) (e : ℕ) → t ≤ length xs → e ≡ t + length part → remove_part t e (insert_part t part xs) ≡ xs
remove-inserted zero part xs e h z =
    let n : e ≡ length part = omega arith in
    let P : ℕ → Type 0 = λ k. drop k (part ++ xs) ≡ xs in
    subst P (sym n) (past part xs)
  where
    past : {X : Type 0} (part xs : List X) → drop (length part) (part ++ xs) ≡ xs
    past [] xs = refl
    past (x ∷ part) xs = past part xs
remove-inserted (suc t) part [] e h z = absurd (omega arith)
remove-inserted (suc t) part (x ∷ xs) zero h z = absurd (omega arith)
remove-inserted (suc t) part (x ∷ xs) (suc e) h z = ap (λ (l : List _). x ∷ l) (remove-inserted t part xs e (omega arith) (omega arith))

-- a part that was moved is moved back
pub move-back : {X : Type 0} (xs : List X) (c e t f : ℕ) → c ≤ e → e ≤ length xs → t ≤ length (remove_part c e xs) → f ≡ t + (e - c)
    → move_part t f c (move_part c e t xs) ≡ xs
move-back xs c e t f h k room z =
    let part = slice_range xs c e in
    let rest = remove_part c e xs in
    let n = length-between xs c e h k in
    let z' : f ≡ t + length part = omega arith in
    rw (slice-inserted t part rest f room z', remove-inserted t part rest f room z') (put-back-same xs c e h k)

pub length-inserted : {X Y : Type 0} (t : ℕ) (p xs : List X) (q ys : List Y) → length p ≡ length q → length xs ≡ length ys → length (insert_part t p xs) ≡ length (insert_part t q ys)
length-inserted t p xs q ys e k =
    let a = length-append (take t xs) (p ++ drop t xs) in
    let b = length-append p (drop t xs) in
    let c = length-append (take t ys) (q ++ drop t ys) in
    let d = length-append q (drop t ys) in
    let f = length-take t xs in
    let g = length-take t ys in
    let h = length-drop t xs in
    let i = length-drop t ys in
    omega arith

-- ---- where a subtree ends

pub head-after : (ds : List ℕ) (c : ℕ) → c < length ds → HeadAtMost (get_or ds c 0) (drop (end_of ds c) ds)
head-after [] c h = absurd (omega arith)
head-after (d ∷ ds) zero h = rw (end-zero d ds) (next d ds)
head-after (d ∷ ds) (suc c) h = rw (end-suc d ds c) (head-after ds c (omega arith))

pub put-head : (c b : ℕ) (ds : List ℕ) (t : ℕ) → PutOk c b ds t → HeadAtMost c (drop t ds)
put-head c b ds zero ok = ok.1
put-head c b [] (suc t) ok = tt
put-head c b (d ∷ ds) (suc t) ok = put-head c d ds t ok

deeper-all : (b : ℕ) (bs rest : List ℕ) → Low (b + 1) bs → HeadAtMost b rest → descendants b (bs ++ rest) ≡ length bs
deeper-all b [] [] l h = refl
deeper-all b [] (e ∷ es) l h = let z : nat_lt b e ≡ false = grind (arith, nat_tests) in rw z refl
deeper-all b (x ∷ bs) rest l h =
    let z : nat_lt b x ≡ true = let y : b + 1 ≤ x = l.0 in grind (arith, nat_tests) in
    rw z (ap suc (deeper-all b bs rest l.1 h))

-- a subtree that is put in ends where it ends
pub end-inserted : (rest bs : List ℕ) (t b : ℕ) → t ≤ length rest → Low (b + 1) bs → HeadAtMost b (drop t rest) → end_of (insert_part t (b ∷ bs) rest) t ≡ t + suc (length bs)
end-inserted rest bs zero b h l k = end-zero b (bs ++ rest) ∙ (ap suc (deeper-all b bs rest l k) ∙ (let e : suc (length bs) ≡ 0 + suc (length bs) = omega arith in e))
end-inserted [] bs (suc t) b h l k = absurd (omega arith)
end-inserted (d ∷ rest) bs (suc t) b h l k =
    let ih = end-inserted rest bs t b (omega arith) l k in
    end-suc d (insert_part t (b ∷ bs) rest) t ∙ (ap suc ih ∙ (let e : suc (t + suc (length bs)) ≡ suc t + suc (length bs) = omega arith in e))

pub get-inserted : (rest bs : List ℕ) (t b : ℕ) → t ≤ length rest → get_or (insert_part t (b ∷ bs) rest) t 0 ≡ b
get-inserted rest bs zero b h = refl
get-inserted [] bs (suc t) b h = absurd (omega arith)
get-inserted (d ∷ rest) bs (suc t) b h = get-inserted rest bs t b (omega arith)

-- ---- the place of a child, from the number of children before it

abbrev pub or_at : ℕ → Option ℕ → ℕ
or_at e None = e
or_at e (Some c) = c

or-at-place : (ds : List ℕ) (p : ℕ) (o : Option ℕ) → place_for_child ds p o ≡ or_at (end_of ds p) o
or-at-place ds p None = refl
or-at-place ds p (Some c) = refl

first-step : (t u : Bool) (at d e n : ℕ) (o1 o2 : Option ℕ) → nat_lt d e ≡ t → nat_eq e (d + 1) ≡ u → e ≤ d + 1
    → or_at (at + (if t then suc n else 0)) (if t then (if u then Some at else o2) else None) ≡ at + 0
first-step true true at d e n o1 o2 h k le = omega arith
first-step true false at d e n o1 o2 h k le = absurd (let x : d < e = grind (arith, nat_tests) in let y : e ≡ d + 1 = omega arith in let z : nat_eq e (d + 1) ≡ true = grind (arith, nat_tests) in let f : false ≡ true = sym k ∙ z in cc)
first-step false u at d e n o1 o2 h k le = refl

later-step : (u : Bool) (at d n i m j : ℕ) (es : List ℕ) → (if u then suc j else j) ≡ i
    → ((k : ℕ) → j ≡ k → or_at (at + 1 + m) (child_from (at + 1) d k es) ≡ at + 1 + n)
    → or_at (at + suc m) (if u then (if nat_eq i 0 then Some at else child_from (at + 1) d (i - 1) es) else child_from (at + 1) d i es) ≡ at + suc n
later-step true at d n i m j es h f =
    let z : nat_eq i 0 ≡ false = grind (arith, nat_tests) in
    let e : j ≡ i - 1 = omega arith in
    let a : at + suc m ≡ at + 1 + m = omega arith in
    let b : at + suc n ≡ at + 1 + n = omega arith in
    rw (z, a, b) (f (i - 1) e)
later-step false at d n i m j es h f =
    let a : at + suc m ≡ at + 1 + m = omega arith in
    let b : at + suc n ≡ at + 1 + n = omega arith in
    rw (a, b) (f i h)

slot-child : (at d n i : ℕ) (es : List ℕ) → n ≤ descendants d es → HeadAtMost (d + 1) (drop n es) → children_of d (take n es) ≡ i
    → or_at (at + descendants d es) (child_from at d i es) ≡ at + n
slot-child at d zero i [] h k e = refl
slot-child at d zero i (x ∷ es) h k e =
    let P : ℕ → Type 0 = λ j. or_at (at + descendants d (x ∷ es)) (child_from at d j (x ∷ es)) ≡ at + 0 in
    subst P e (first-step (nat_lt d x) (nat_eq x (d + 1)) at d x (descendants d es) None (child_from (at + 1) d 0 es) refl refl k)
slot-child at d (suc n) i [] h k e = absurd (omega arith)
slot-child at d (suc n) i (x ∷ es) h k e =
    let w = within-descendants (nat_lt d x) n (descendants d es) h in
    let e' : (if nat_eq x (d + 1) then suc (children_of d (take n es)) else children_of d (take n es)) ≡ i = rw w.0 at e in
    rw w.0 (later-step (nat_eq x (d + 1)) at d n i (descendants d es) (children_of d (take n es)) es e' (λ j q. slot-child (at + 1) d n j es w.1 k q))

-- a place with i children of the node p before it, where a child or the end of the subtree of p is: there a child i is put
pub place-of-slot : (ds : List ℕ) (p i c : ℕ) → IsSlot ds p i c → HeadAtMost (get_or ds p 0 + 1) (drop c ds) → place_for_child ds p (child ds p i) ≡ c
place-of-slot ds p i c s k =
    let d = get_or ds p 0 in
    let n = s.0 in
    let at : drop n (drop (p + 1) ds) ≡ drop c ds = drop-drop n (p + 1) ds ∙ ap (λ (x : ℕ). drop x ds) (sym s.1) in
    let P : List ℕ → Type 0 = λ l. HeadAtMost (d + 1) l in
    or-at-place ds p (child ds p i) ∙ (slot-child (p + 1) d n i (drop (p + 1) ds) s.2 (subst P (sym at) k) s.3 ∙ sym s.1)

drop-removed : {X : Type 0} (xs : List X) (c e : ℕ) → c ≤ e → c ≤ length xs → drop c (remove_part c e xs) ≡ drop e xs
drop-removed xs zero e k h = refl
drop-removed [] (suc c) e k h = absurd (omega arith)
drop-removed (x ∷ xs) (suc c) zero k h = absurd (omega arith)
drop-removed (x ∷ xs) (suc c) (suc e) k h = drop-removed xs c e (omega arith) (omega arith)

-- the place from which a child was taken out is the place where a child of its number is put
pub home : (ds : List ℕ) (p i c : ℕ) → p < length ds → child ds p i ≡ Some c
    → place_for_child (remove_part c (end_of ds c) ds) p (child (remove_part c (end_of ds c) ds) p i) ≡ c
home ds p i c h is =
    let w = child-at 0 ds p i c h is in
    let within : c < length ds = w.1 in
    let rest = remove_part c (end_of ds c) ds in
    let same : get_or rest p 0 ≡ get_or ds p 0 = before-part ℕ 0 ds (drop (end_of ds c) ds) c p w.0 h in
    let depth : get_or ds c 0 ≡ get_or rest p 0 + 1 = let x : get_or ds c 0 ≡ get_or ds p 0 + 1 = w.2 in omega arith in
    let P : List ℕ → Type 0 = λ l. HeadAtMost (get_or rest p 0 + 1) l in
    let Q : ℕ → Type 0 = λ n. HeadAtMost n (drop (end_of ds c) ds) in
    place-of-slot rest p i c (slot-left ds p i c h is) (subst P (sym (drop-removed ds c (end_of ds c) (past ds c) (omega arith))) (subst Q depth (head-after ds c within)))
