-- A subtree that is put in as a child leaves the other children of the node in their order.
use Rattle.std.proofs.Common.{◌≡◌, ℕ, ◌+◌, ◌-◌, ◌<◌, ◌≤◌, suc, zero, Bool, true, false, List, [], ◌∷◌, ◌++◌, length, take, drop, get_or, Option, Some, None, refl, sym, ap, ◌∙◌, subst, arith}
use Rattle.std.specs.Prelude.{if◌then◌else◌, nat_lt, nat_eq, is_some, slice_range, slice_get}
use Rattle.std.specs.Option.{option_map}
use Rattle.std.proofs.lemmas.List.{take-append-drop, length-take, length-drop}
use Rattle.std.proofs.lemmas.Bool.Decides.{nat_tests}
use Rattle.hold_shapes.specs.declared.origins.Origin.{Origin}
use Rattle.hold_shapes.specs.declared.origins.Origin.TheVariants.{Old}
use Rattle.hold_shapes.specs.Trees.{descendants, children_of, children, child_from, child, end_of}
use Rattle.hold_shapes.specs.Plans.{old_places, remove_part, insert_part, move_part, place_for_child}
use Rattle.hold_shapes.proofs.ValidDepths.{Low}
use Rattle.hold_shapes.proofs.ChildPlaces.{child-at}
use Rattle.hold_shapes.proofs.Nodes.{child-numbered}
use Rattle.hold_shapes.proofs.RunOrigins.{kept-at, slice_get-back}
use Rattle.law_shapes.specs.Children.{other_child, origin_of}
use Rattle.law_shapes.proofs.Content.{child-in}
use Rattle.law_shapes.proofs.Children.{child-test, no_child-test, within-descendants, number-zero, not-before, next-place, before-part, drop-insert, drop-remove, child-descendant}
use Rattle.std.proofs.lemmas.Bool.{lt-ltb}

-- a place of a list after m items were put in at place b
abbrev pub past_part : ℕ → ℕ → ℕ → ℕ
past_part b m x = if nat_lt x b then x else x + m

-- ---- children of a node of depth d, es the nodes that follow it

map-step : (t u v : Bool) (f : ℕ → ℕ) (a b : ℕ) (o1 o2 p1 p2 : Option ℕ) → b ≡ f a → p1 ≡ option_map f o1 → p2 ≡ option_map f o2
    → (if t then (if u then (if v then Some b else p1) else p2) else None) ≡ option_map f (if t then (if u then (if v then Some a else o1) else o2) else None)
map-step true true true f a b o1 o2 p1 p2 h i j = ap Some h
map-step true true false f a b o1 o2 p1 p2 h i j = i
map-step true false v f a b o1 o2 p1 p2 h i j = j
map-step false u v f a b o1 o2 p1 p2 h i j = refl

child_from-on : (at m d k : ℕ) (es : List ℕ) → child_from (at + m) d k es ≡ option_map (λ x. x + m) (child_from at d k es)
child_from-on at m d k [] = refl
child_from-on at m d k (e ∷ es) =
    let z : at + m + 1 ≡ at + 1 + m = omega arith in
    rw z
    (map-step (nat_lt d e) (nat_eq e (d + 1)) (nat_eq k 0) (λ x. x + m) at (at + m) (child_from (at + 1) d (k - 1) es) (child_from (at + 1) d k es)
    (child_from (at + 1 + m) d (k - 1) es) (child_from (at + 1 + m) d k es) refl (child_from-on (at + 1) m d (k - 1) es) (child_from-on (at + 1) m d k es))

child_from-skip : (at d k : ℕ) (bs es : List ℕ) → Low (d + 2) bs → child_from at d k (bs ++ es) ≡ child_from (at + length bs) d k es
child_from-skip at d k [] es l = let z : at + 0 ≡ at = omega arith in rw z refl
child_from-skip at d k (b ∷ bs) es l =
    let z : at + suc (length bs) ≡ at + 1 + length bs = omega arith in
    rw (lt-ltb d b (omega (arith, l.0)), no_child-test d b l.0, z) (child_from-skip (at + 1) d k bs es l.1)

all-behind : (b m : ℕ) (o : Option ℕ) → ((x : ℕ) → o ≡ Some x → b ≤ x) → option_map (λ x. x + m) o ≡ option_map (past_part b m) o
all-behind b m None h = refl
all-behind b m (Some x) h =
    let up : b ≤ x = h x refl in
    let z : nat_lt x b ≡ false = grind (arith, nat_tests) in
    rw z refl

other-first : (k : ℕ) → other_child 0 k ≡ suc k
other-first k = let z : nat_lt k 0 ≡ false = grind (arith, nat_tests) in rw z refl

other-step : (t u : Bool) (k : ℕ) → t ≡ u → (if t then suc k else suc (suc k)) ≡ suc (if u then k else suc k)
other-step true true k h = refl
other-step true false k h = cc
other-step false true k h = cc
other-step false false k h = refl

other-next : (j k : ℕ) → other_child (suc j) (suc k) ≡ suc (other_child j k)
other-next j k = other-step (nat_lt (suc k) (suc j)) (nat_lt k j) k (grind (arith, nat_tests))

-- one node further, which is a child itself if u
later-others : (u : Bool) (at b m j k : ℕ) (G H : ℕ → Option ℕ) → at < b → ((k : ℕ) → G (other_child j k) ≡ option_map (past_part b m) (H k))
    → (if u then (if nat_eq (other_child (if u then suc j else j) k) 0 then Some at else G (other_child (if u then suc j else j) k - 1)) else G (other_child (if u then suc j else j) k))
    ≡ option_map (past_part b m) (if u then (if nat_eq k 0 then Some at else H (k - 1)) else H k)
later-others false at b m j k G H h ih = ih k
later-others true at b m j zero G H h ih =
    let z : nat_lt 0 (suc j) ≡ true = grind (arith, nat_tests) in
    let y : nat_lt at b ≡ true = grind (arith, nat_tests) in
    rw (z, y) refl
later-others true at b m j (suc k) G H h ih =
    let z : nat_eq (suc (other_child j k)) 0 ≡ false = grind (arith, nat_tests) in
    let y : nat_eq (suc k) 0 ≡ false = grind (arith, nat_tests) in
    let less : suc (other_child j k) - 1 ≡ other_child j k = omega arith in
    let one : suc k - 1 ≡ k = omega arith in
    rw (other-next j k, z, y, less, one) (ih k)

others : (at d n : ℕ) (bs es : List ℕ) → Low (d + 2) bs → n ≤ descendants d es → (k : ℕ)
    → child_from at d (other_child (children_of d (take n es)) k) (insert_part n ((d + 1) ∷ bs) es) ≡ option_map (past_part (at + n) (suc (length bs))) (child_from at d k es)
others at d zero bs es l h k =
    let z : nat_eq (suc k) 0 ≡ false = grind (arith, nat_tests) in
    let one : suc k - 1 ≡ k = omega arith in
    let here : at + 0 ≡ at = omega arith in
    let more : at + 1 + length bs ≡ at + suc (length bs) = omega arith in
    rw (other-first k, lt-ltb d (d + 1) (omega arith), child-test d, z, one, here)
    (child_from-skip (at + 1) d k bs es l
    ∙ (ap (λ a. child_from a d k es) more
    ∙ (child_from-on at (suc (length bs)) d k es ∙ all-behind at (suc (length bs)) (child_from at d k es) (λ x e. (child-in at d k x es e).0))))
others at d (suc n) bs [] l h k = absurd (omega arith)
others at d (suc n) bs (e ∷ es) l h k =
    let w = within-descendants (nat_lt d e) n (descendants d es) h in
    let G : ℕ → Option ℕ = λ i. child_from (at + 1) d i (insert_part n ((d + 1) ∷ bs) es) in
    let H : ℕ → Option ℕ = λ i. child_from (at + 1) d i es in
    let ih : (i : ℕ) → G (other_child (children_of d (take n es)) i) ≡ option_map (past_part (at + suc n) (suc (length bs))) (H i)
    = λ i. let same : at + 1 + n ≡ at + suc n = omega arith in
    subst (λ b. G (other_child (children_of d (take n es)) i) ≡ option_map (past_part b (suc (length bs))) (H i)) same (others (at + 1) d n bs es l w.1 i) in
    rw w.0 (later-others (nat_eq e (d + 1)) at (at + suc n) (suc (length bs)) (children_of d (take n es)) k G H (omega arith) ih)

-- ---- how many children are before a place

count-step : (t u v : Bool) (at n i x : ℕ) (o1 o2 : Option ℕ) → nat_eq i 0 ≡ v → (o1 ≡ Some (at + suc n) → x ≡ i - 1) → (o2 ≡ Some (at + suc n) → x ≡ i)
    → (if t then (if u then (if v then Some at else o1) else o2) else None) ≡ Some (at + suc n) → (if t then (if u then suc x else x) else 0) ≡ i
count-step true true true at n i x o1 o2 z f g is = let same : at ≡ at + suc n = cc in absurd (omega arith)
count-step true true false at n i x o1 o2 z f g is = let e : x ≡ i - 1 = f is in grind (arith, nat_tests)
count-step true false v at n i x o1 o2 z f g is = g is
count-step false u v at n i x o1 o2 z f g is = cc

count-before : (at d i n : ℕ) (es : List ℕ) → child_from at d i es ≡ Some (at + n) → children_of d (take n es) ≡ i
count-before at d i n [] is = cc
count-before at d i zero (e ∷ es) is =
    let z = number-zero (nat_lt d e) (nat_eq e (d + 1)) (nat_eq i 0) at i (child_from (at + 1) d (i - 1) es) (child_from (at + 1) d i es) refl
    (not-before at d (i - 1) es) (not-before at d i es) is in
    grind (arith, nat_tests, z)
count-before at d i (suc n) (e ∷ es) is =
    count-step (nat_lt d e) (nat_eq e (d + 1)) (nat_eq i 0) at n i (children_of d (take n es)) (child_from (at + 1) d (i - 1) es) (child_from (at + 1) d i es) refl
    (λ h. count-before (at + 1) d (i - 1) n es (next-place at n (λ m. child_from (at + 1) d (i - 1) es ≡ Some m) h))
    (λ h. count-before (at + 1) d i n es (next-place at n (λ m. child_from (at + 1) d i es ≡ Some m) h)) is

all-step : (t : Bool) (d e : ℕ) (es : List ℕ) → nat_lt d e ≡ t → children_of d (take (descendants d es) es) ≡ children_of d es
    → children_of d (take (if t then suc (descendants d es) else 0) (e ∷ es)) ≡ children_of d (e ∷ es)
all-step true d e es h ih = rw ih refl
all-step false d e es h ih = rw h refl

count-all : (d : ℕ) (es : List ℕ) → children_of d (take (descendants d es) es) ≡ children_of d es
count-all d [] = refl
count-all d (e ∷ es) = all-step (nat_lt d e) d e es refl (count-all d es)

-- what stands behind the first n nodes does not matter for them
still-below : (d n : ℕ) (es zs : List ℕ) → n ≤ descendants d es → n ≤ descendants d (take n es ++ zs)
still-below d zero es zs h = omega arith
still-below d (suc n) [] zs h = absurd (omega arith)
still-below d (suc n) (e ∷ es) zs h =
    let w = within-descendants (nat_lt d e) n (descendants d es) h in
    let i = still-below d n es zs w.1 in
    rw w.0 (omega arith)

same-before : (d n : ℕ) (es zs : List ℕ) → n ≤ descendants d es → take n (take n es ++ zs) ≡ take n es
same-before d zero es zs h = refl
same-before d (suc n) [] zs h = absurd (omega arith)
same-before d (suc n) (e ∷ es) zs h =
    let w = within-descendants (nat_lt d e) n (descendants d es) h in
    ap (λ xs. e ∷ xs) (same-before d n es zs w.1)

-- ---- the same in a tree, at the node p

-- place t is among the descendants of the node p or right behind them, and j of its children are before it
abbrev pub IsSlot : List ℕ → ℕ → ℕ → ℕ → Type 0
IsSlot ds p j t = (n : ℕ) × (t ≡ p + 1 + n) × (n ≤ descendants (get_or ds p 0) (drop (p + 1) ds)) × (children_of (get_or ds p 0) (take n (drop (p + 1) ds)) ≡ j)

pub others-inserted : (ds bs : List ℕ) (p j t : ℕ) → p < length ds → Low (get_or ds p 0 + 2) bs → IsSlot ds p j t → (k : ℕ)
    → child (insert_part t ((get_or ds p 0 + 1) ∷ bs) ds) p (other_child j k) ≡ option_map (past_part t (suc (length bs))) (child ds p k)
others-inserted ds bs p j t h l s k =
    let d = get_or ds p 0 in
    let n = s.0 in
    let same : get_or (insert_part (p + 1 + n) ((d + 1) ∷ bs) ds) p 0 ≡ d = before-part ℕ 0 ds ((d + 1) ∷ (bs ++ drop (p + 1 + n) ds)) (p + 1 + n) p (omega arith) h in
    let rest : drop (p + 1) (insert_part (p + 1 + n) ((d + 1) ∷ bs) ds) ≡ insert_part n ((d + 1) ∷ bs) (drop (p + 1) ds) = drop-insert ((d + 1) ∷ bs) ds (p + 1) n (omega arith) in
    let P : ℕ → ℕ → Type 0 = λ u i. child (insert_part u ((d + 1) ∷ bs) ds) p (other_child i k) ≡ option_map (past_part u (suc (length bs))) (child ds p k) in
    let put : P (p + 1 + n) (children_of d (take n (drop (p + 1) ds))) = rw (same, rest) (others (p + 1) d n bs (drop (p + 1) ds) l s.2 k) in
    subst (λ u. P u j) (sym s.1) (subst (λ i. P (p + 1 + n) i) s.3 put)

-- where a child was taken out
pub slot-left : (ds : List ℕ) (p i c : ℕ) → p < length ds → child ds p i ≡ Some c → IsSlot (remove_part c (end_of ds c) ds) p i c
slot-left ds p i c h is =
    let d = get_or ds p 0 in
    let w = child-at 0 ds p i c h is in
    let up : p < c = w.0 in
    let n = c - (p + 1) in
    let es = drop (p + 1) ds in
    let e : c ≡ p + 1 + n = omega arith in
    let R : ℕ → Type 0 = λ m. child ds p i ≡ Some m in
    let below : n ≤ descendants d es = child-descendant (p + 1) d i n es (subst R e is) in
    let count : children_of d (take n es) ≡ i = count-before (p + 1) d i n es (subst R e is) in
    let same : get_or (remove_part c (end_of ds c) ds) p 0 ≡ d = before-part ℕ 0 ds (drop (end_of ds c) ds) c p up h in
    let D : ℕ → Type 0 = λ m. drop (p + 1) (remove_part m (end_of ds m) ds) ≡ take n es ++ drop (end_of es n) es in
    let rest : D c = subst D (sym e) (drop-remove ds (p + 1) n (omega arith)) in
    (n, e, rw (same, rest) (still-below d n es (drop (end_of es n) es) below), rw (same, rest, same-before d n es (drop (end_of es n) es) below) count)

-- where a child of a number is put in
pub slot-for : (ds : List ℕ) (p j t : ℕ) (o : Option ℕ) → p < length ds → child ds p j ≡ o → j ≤ children ds p → t ≡ place_for_child ds p o → IsSlot ds p j t
slot-for ds p j t None h is le e =
    let no : false ≡ nat_lt j (children ds p) = let k = child-numbered ds p j in let P : Option ℕ → Type 0 = λ o. is_some o ≡ nat_lt j (children ds p) in subst P is k in
    let last : children ds p ≡ j = grind (arith, nat_tests, no, le) in
    let d = get_or ds p 0 in
    (descendants d (drop (p + 1) ds), e, omega arith, count-all d (drop (p + 1) ds) ∙ last)
slot-for ds p j t (Some c) h is le e =
    let d = get_or ds p 0 in
    let w = child-at 0 ds p j c h is in
    let up : p < c = w.0 in
    let n = c - (p + 1) in
    let k : c ≡ p + 1 + n = omega arith in
    let R : ℕ → Type 0 = λ m. child ds p j ≡ Some m in
    (n, e ∙ k, child-descendant (p + 1) d j n (drop (p + 1) ds) (subst R k is), count-before (p + 1) d j n (drop (p + 1) ds) (subst R k is))

-- ---- the origins

past-step : (t u : Bool) (m x : ℕ) → t ≡ u → (if t then suc x else suc x + m) ≡ suc (if u then x else x + m)
past-step true true m x h = refl
past-step true false m x h = cc
past-step false true m x h = cc
past-step false false m x h = omega arith

past-next : (t m x : ℕ) → past_part (suc t) m (suc x) ≡ suc (past_part t m x)
past-next t m x = past-step (nat_lt (suc x) (suc t)) (nat_lt x t) m x (grind (arith, nat_tests))

get-past : {X : Type 0} (xs part : List X) (t m x : ℕ) → t ≤ length xs → length part ≡ m → slice_get (insert_part t part xs) (past_part t m x) ≡ slice_get xs x
get-past xs part zero m x h e =
    let z : nat_lt x 0 ≡ false = grind (arith, nat_tests) in
    let less : x + m - length part ≡ x = omega arith in
    rw z (slice_get-back part xs (x + m) (omega arith) ∙ ap (λ i. slice_get xs i) less)
get-past [] part (suc t) m x h e = absurd (omega arith)
get-past (y ∷ ys) part (suc t) m zero h e = let z : nat_lt 0 (suc t) ≡ true = grind (arith, nat_tests) in rw z refl
get-past (y ∷ ys) part (suc t) m (suc x) h e = rw (past-next t m x) (get-past ys part t m x (omega arith) e)

pub put-back-same : {X : Type 0} (xs : List X) (c e : ℕ) → c ≤ e → e ≤ length xs → insert_part c (slice_range xs c e) (remove_part c e xs) ≡ xs
put-back-same xs zero e h k = let z : e - 0 ≡ e = omega arith in rw z (take-append-drop e xs)
put-back-same [] (suc c) e h k = absurd (omega arith)
put-back-same (x ∷ xs) (suc c) zero h k = absurd (omega arith)
put-back-same (x ∷ xs) (suc c) (suc e) h k =
    let z : suc e - suc c ≡ e - c = omega arith in
    rw z (ap (λ ys. x ∷ ys) (put-back-same xs c e (omega arith) (omega arith)))

pub length-between : {X : Type 0} (xs : List X) (c e : ℕ) → c ≤ e → e ≤ length xs → length (slice_range xs c e) ≡ e - c
length-between xs c e h k =
    let a = length-take (e - c) (drop c xs) in
    let b = length-drop c xs in
    omega arith

-- a place of the rest has the origin that its old place has, wherever the part is put in
pub same-origin : (n c e t m x y : ℕ) → c ≤ e → e ≤ n → t ≤ length (remove_part c e (old_places n)) → c ≤ length (remove_part c e (old_places n))
    → length (old_places n) ≡ n → e - c ≡ m → past_part c m x ≡ y → y < n
    → slice_get (move_part c e t (old_places n)) (past_part t m x) ≡ Some (Old y)
same-origin n c e t m x y h k room front size z to less =
    let os = old_places n in
    let rest = remove_part c e os in
    let part = slice_range os c e in
    let long : length part ≡ m = length-between os c e h (omega arith) ∙ z in
    let P : List Origin → Type 0 = λ list. slice_get list (past_part c m x) ≡ slice_get rest x in
    let old : slice_get os (past_part c m x) ≡ slice_get rest x = subst P (put-back-same os c e h (omega arith)) (get-past rest part c m x front long) in
    let zero-on : 0 + y ≡ y = omega arith in
    get-past rest part t m x room long ∙ (sym old ∙ (ap (λ i. slice_get os i) to ∙ (kept-at 0 n y less ∙ ap (λ i. Some (Old i)) zero-on)))

pub others-origin : (from : List Origin) (f g : ℕ → ℕ) (new old rest : Option ℕ) → new ≡ option_map f rest → old ≡ option_map g rest
    → ((x : ℕ) → old ≡ Some (g x) → slice_get from (f x) ≡ Some (Old (g x))) → origin_of from new ≡ option_map Old old
others-origin from f g new old None a b h = rw (a, b) refl
others-origin from f g new old (Some x) a b h = rw a (h x b ∙ sym (ap (λ o. option_map Old o) b))
