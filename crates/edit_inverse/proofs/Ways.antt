-- The way from the root to the last node of a tree, and the next node in preorder.
use Rattle.std.proofs.Common.{◌≡◌, ℕ, ◌+◌, ◌-◌, ◌<◌, ◌≤◌, suc, zero, Bool, true, false, List, [], ◌∷◌, ◌++◌, length, take, drop, get_or, Option, Some, refl, sym, ap, ◌∙◌, subst, arith}
use Rattle.std.specs.Prelude.{if◌then◌else◌, nat_lt, nat_eq}
use Rattle.std.proofs.lemmas.Bool.Decides.{nat_tests}
use Rattle.std.proofs.lemmas.List.{append-nil, append_assoc, length-append, length-take-le, get_or_append_left, drop_all}
use Rattle.std.proofs.Math.Seq.{take-append_seam, take_all}
use Rattle.hold_shapes.specs.Trees.{node_from, child, children, children_of, end_of, descendants}
use Rattle.hold_shapes.specs.Plans.{insert_part}
use Rattle.edit_inverse.specs.Paths.{next_number, next_path, paths_after, parent_path}
use Rattle.hold_shapes.proofs.ValidDepths.{GoesOn, HeadAtMost, above-end}
use Rattle.hold_shapes.proofs.ChildPlaces.{child-at}
use Rattle.law_shapes.proofs.SamePrefix.{SamePrefix, prefix-less, child-same}
use Rattle.law_shapes.proofs.Children.{no_child-test, children-more, child-at_end}
use Rattle.std.proofs.lemmas.Bool.{lt-ltb}

-- ---- lists with more behind them

-- a list agrees with itself and something behind it
prefix-append : (xs zs : List ℕ) → SamePrefix (length xs) xs (xs ++ zs)
prefix-append [] zs = tt
prefix-append (x ∷ xs) zs = (refl, prefix-append xs zs)

pub child-append : (ds tail : List ℕ) (p i c : ℕ) → p < length ds → child ds p i ≡ Some c → child (ds ++ tail) p i ≡ Some c
child-append ds tail p i c h is =
    let w = child-at 0 ds p i c h is in
    let within : c < length ds = w.1 in
    child-same ds (ds ++ tail) p i c h is (prefix-less (c + 1) (length ds) ds (ds ++ tail) (omega arith) (prefix-append ds tail))

drop-front : (ds tail : List ℕ) (p : ℕ) → p < length ds → drop (p + 1) (ds ++ tail) ≡ drop (p + 1) ds ++ tail
drop-front [] tail p h = absurd (omega arith)
drop-front (d ∷ ds) tail zero h = refl
drop-front (d ∷ ds) tail (suc p) h = let e : suc p + 1 ≡ suc (p + 1) = omega arith in rw e (drop-front ds tail p (omega arith))

-- all nodes behind a node are its descendants
ends-step : (t : Bool) (d e : ℕ) (es : List ℕ) → (if t then suc (descendants d es) else 0) ≡ suc (length es) → (t ≡ true) × (descendants d es ≡ length es)
ends-step true d e es h = (refl, omega arith)
ends-step false d e es h = absurd (omega arith)

descend-on : (d : ℕ) (es tail : List ℕ) → descendants d es ≡ length es → descendants d (es ++ tail) ≡ length es + descendants d tail
descend-on d [] tail h = omega arith
descend-on d (e ∷ es) tail h =
    let w = ends-step (nat_lt d e) d e es h in
    let ih = descend-on d es tail w.1 in
    rw (w.0) (omega arith)

none-deeper : (d : ℕ) (tail : List ℕ) → HeadAtMost d tail → descendants d tail ≡ 0
none-deeper d [] h = refl
none-deeper d (e ∷ es) h = let z : nat_lt d e ≡ false = grind (arith, nat_tests) in rw z refl

length-behind : (ds : List ℕ) (p : ℕ) → p < length ds → p + 1 + length (drop (p + 1) ds) ≡ length ds
length-behind [] p h = absurd (omega arith)
length-behind (d ∷ ds) zero h = omega arith
length-behind (d ∷ ds) (suc p) h =
    let e : suc p + 1 ≡ suc (p + 1) = omega arith in
    let ih = length-behind ds p (omega arith) in
    rw e (omega arith)

-- the subtree of a node ends with the list: it ends there, too, before a node that is not deeper
pub end-append : (ds tail : List ℕ) (p : ℕ) → p < length ds → end_of ds p ≡ length ds → end_of (ds ++ tail) p ≡ length ds + descendants (get_or ds p 0) tail
end-append ds tail p h e =
    let same : get_or (ds ++ tail) p 0 ≡ get_or ds p 0 = get_or_append_left ds tail 0 p h in
    let n = length-behind ds p h in
    let all : descendants (get_or ds p 0) (drop (p + 1) ds) ≡ length (drop (p + 1) ds) = omega arith in
    let on = descend-on (get_or ds p 0) (drop (p + 1) ds) tail all in
    rw (same, drop-front ds tail p h, on) (omega arith)

pub end-before : (ds tail : List ℕ) (p : ℕ) → p < length ds → end_of ds p ≡ length ds → HeadAtMost (get_or ds p 0) tail → end_of (ds ++ tail) p ≡ length ds
end-before ds tail p h e low =
    let z = none-deeper (get_or ds p 0) tail low in
    let on = end-append ds tail p h e in omega arith

-- the same with one deeper node behind it
pub end-more : (ds : List ℕ) (d p : ℕ) → p < length ds → end_of ds p ≡ length ds → get_or ds p 0 < d → end_of (ds ++ d ∷ []) p ≡ length (ds ++ d ∷ [])
end-more ds d p h e lt =
    let on = end-append ds (d ∷ []) p h e in
    let l = length-append ds (d ∷ []) in
    let one : descendants (get_or ds p 0) (d ∷ []) ≡ 1 = rw (lt-ltb (get_or ds p 0) d lt) refl in omega arith

-- a node that is deeper than a child is no child
children-on-step : (t u : Bool) (m n : ℕ) → m ≡ n → (if t then (if u then suc m else m) else 0) ≡ (if t then (if u then suc n else n) else 0)
children-on-step true true m n h = ap suc h
children-on-step true false m n h = h
children-on-step false u m n h = refl

children-on : (d e : ℕ) (es : List ℕ) → d + 2 ≤ e → children_of d (es ++ e ∷ []) ≡ children_of d es
children-on d e [] h = rw (lt-ltb d e (omega arith), no_child-test d e h) refl
children-on d e (x ∷ es) h = children-on-step (nat_lt d x) (nat_eq x (d + 1)) (children_of d (es ++ e ∷ [])) (children_of d es) (children-on d e es h)

children-append : (ds : List ℕ) (e p : ℕ) → p < length ds → get_or ds p 0 + 2 ≤ e → children (ds ++ e ∷ []) p ≡ children ds p
children-append ds e p h lt =
    let same : get_or (ds ++ e ∷ []) p 0 ≡ get_or ds p 0 = get_or_append_left ds (e ∷ []) 0 p h in
    rw (same, drop-front ds (e ∷ []) p h) (children-on (get_or ds p 0) e (drop (p + 1) ds) lt)

insert-end : (ds bs : List ℕ) (t : ℕ) → t ≡ length ds → insert_part t bs ds ≡ ds ++ bs
insert-end ds bs t e =
    let P : ℕ → Type 0 = λ n. insert_part n bs ds ≡ ds ++ bs in
    subst P (sym e) (rw (take_all (length ds) ds (omega arith), drop_all (length ds) ds (omega arith), append-nil bs) refl)

-- ---- ways

-- from the node p on, the path leads to the last node of the tree, over the last child each time
abbrev pub Way : List ℕ → ℕ → List ℕ → Type 0
Way ds p [] = suc p ≡ length ds
Way ds p (i ∷ path) = (c : ℕ) × (child ds p i ≡ Some c) × (children ds p ≡ suc i) × (end_of ds p ≡ length ds) × Way ds c path

-- the node at which a way begins is there, and its subtree ends with the tree
pub way-end : (ds : List ℕ) (p : ℕ) (path : List ℕ) → Way ds p path → (p < length ds) × (end_of ds p ≡ length ds)
way-end ds p [] w =
    let none : drop (p + 1) ds ≡ [] = drop_all (p + 1) ds (omega arith) in
    (omega arith, rw none (omega arith))
way-end ds p (i ∷ path) w = let up = above-end ds p in (omega (arith, w.3), w.3)

-- its number of children is that of the next one on the way
way-children : (ds : List ℕ) (p : ℕ) (path : List ℕ) → Way ds p path → children ds p ≡ next_number path
way-children ds p [] w =
    let none : drop (p + 1) ds ≡ [] = drop_all (p + 1) ds (omega arith) in
    rw none refl
way-children ds p (i ∷ path) w = let e : suc i ≡ i + 1 = omega arith in w.2 ∙ e

-- the next node, m levels below the node p's children
pub way-more : (ds : List ℕ) (p : ℕ) (path : List ℕ) (m d : ℕ) → Way ds p path → m ≤ length path → d ≡ get_or ds p 0 + suc m
    → Way (ds ++ d ∷ []) p (take m path ++ next_number (drop m path) ∷ [])
way-more ds p path zero d w le e =
    let k = way-end ds p path w in
    let inside : p < length ds = k.0 in
    let one : get_or ds p 0 + 1 ≡ d = omega arith in
    let P : ℕ → Type 0 = λ x. child (insert_part (end_of ds p) (x ∷ []) ds) p (children ds p) ≡ Some (end_of ds p) in
    let last : P d = subst P one (child-at_end ds [] p inside) in
    let Q : ℕ → Type 0 = λ x. children (insert_part (end_of ds p) (x ∷ []) ds) p ≡ suc (children ds p) in
    let more : Q d = subst Q one (children-more ds [] p (descendants (get_or ds p 0) (drop (p + 1) ds)) inside tt (omega arith)) in
    let new : insert_part (end_of ds p) (d ∷ []) ds ≡ ds ++ d ∷ [] = insert-end ds (d ∷ []) (end_of ds p) k.1 in
    let R : List ℕ → Type 0 = λ xs. child xs p (children ds p) ≡ Some (end_of ds p) in
    let S : List ℕ → Type 0 = λ xs. children xs p ≡ suc (children ds p) in
    let at : child (ds ++ d ∷ []) p (children ds p) ≡ Some (end_of ds p) = subst R new last in
    let T : ℕ → Type 0 = λ n. child (ds ++ d ∷ []) p n ≡ Some (end_of ds p) in
    let l = length-append ds (d ∷ []) in
    let many : children (ds ++ d ∷ []) p ≡ suc (next_number path) = subst S new more ∙ ap suc (way-children ds p path w) in
    (end_of ds p, subst T (way-children ds p path w) at, many, end-more ds d p inside k.1 (omega arith), omega (arith, k.1))
way-more ds p [] (suc m) d w le e = absurd (omega arith)
way-more ds p (i ∷ path) (suc m) d w le e =
    let k = way-end ds p (i ∷ path) w in
    let inside : p < length ds = k.0 in
    let a = child-at 0 ds p i w.0 inside w.1 in
    let deep : get_or ds w.0 0 ≡ get_or ds p 0 + 1 = a.2 in (
      w.0,
      child-append ds (d ∷ []) p i w.0 inside w.1,
      children-append ds d p inside (omega arith) ∙ w.2,
      end-more ds d p inside k.1 (omega arith),
      way-more ds w.0 path m d w.4 (omega arith) (omega arith),
    )

-- the node m levels below p on the way: the subtree of this node ends with the tree
abbrev pub OnWay : List ℕ → List ℕ → ℕ → List ℕ → ℕ → Type 0
OnWay ds tail p path m = (a : ℕ) × (node_from (ds ++ tail) (Some p) (take m path) ≡ Some a) × (a < length ds) × (get_or ds a 0 ≡ get_or ds p 0 + m) × (end_of ds a ≡ length ds)

pub on-way : (ds tail : List ℕ) (p : ℕ) (path : List ℕ) (m : ℕ) → Way ds p path → m ≤ length path → OnWay ds tail p path m
on-way ds tail p path zero w le = let k = way-end ds p path w in (p, refl, k.0, omega arith, k.1)
on-way ds tail p [] (suc m) w le = absurd (omega arith)
on-way ds tail p (i ∷ path) (suc m) w le =
    let k = way-end ds p (i ∷ path) w in
    let inside : p < length ds = k.0 in
    let a = child-at 0 ds p i w.0 inside w.1 in
    let deep : get_or ds w.0 0 ≡ get_or ds p 0 + 1 = a.2 in
    let ih = on-way ds tail w.0 path m w.4 (omega arith) in
    let there : child (ds ++ tail) p i ≡ Some w.0 = child-append ds tail p i w.0 inside w.1 in
    let far : get_or ds ih.0 0 ≡ get_or ds w.0 0 + m = ih.3 in
    (ih.0, ap (λ (o : Option ℕ). node_from (ds ++ tail) o (take m path)) there ∙ ih.1, ih.2, omega arith, ih.4)

-- the whole path leads to the last node
pub way-last : (ds tail : List ℕ) (p : ℕ) (path : List ℕ) (k : ℕ) → Way ds p path → suc k ≡ length ds → node_from (ds ++ tail) (Some p) path ≡ Some k
way-last ds tail p [] k w e = let same : p ≡ k = omega arith in ap Some same
way-last ds tail p (i ∷ path) k w e =
    let q = way-end ds p (i ∷ path) w in
    let there : child (ds ++ tail) p i ≡ Some w.0 = child-append ds tail p i w.0 q.0 w.1 in
    ap (λ (o : Option ℕ). node_from (ds ++ tail) o path) there ∙ way-last ds tail w.0 path k w.4 e

-- ---- from the root on

pub length-next_path : (path : List ℕ) (d : ℕ) → 1 ≤ d → d ≤ length path + 1 → length (next_path path d) ≡ d
length-next_path path d h k =
    let n = length-take-le (d - 1) path (omega arith) in
    let l = length-append (take (d - 1) path) (next_number (drop (d - 1) path) ∷ []) in omega arith

pub parent-next_path : (path : List ℕ) (d : ℕ) → 1 ≤ d → d ≤ length path + 1 → parent_path (next_path path d) ≡ take (d - 1) path
parent-next_path path d h k =
    let n = length-take-le (d - 1) path (omega arith) in
    let l = length-next_path path d h k in
    let e : length (next_path path d) - 1 ≡ length (take (d - 1) path) = omega arith in
    rw e (take-append_seam (take (d - 1) path) (next_number (drop (d - 1) path) ∷ []))

-- the next node of a tree
pub way-next : (ds : List ℕ) (path : List ℕ) (d : ℕ) → Way (0 ∷ ds) 0 path → 1 ≤ d → d ≤ length path + 1 → Way (0 ∷ (ds ++ d ∷ [])) 0 (next_path path d)
way-next ds path d w h k = way-more (0 ∷ ds) 0 path (d - 1) d w (omega arith) (omega arith)

-- a way to each node, and the paths of those behind it
abbrev pub Split : List ℕ → List ℕ → List ℕ → ℕ → Type 0
Split ds path rs k = (to : List ℕ) × Way (0 ∷ (ds ++ take k rs)) 0 to × GoesOn (length to) (drop k rs) × (drop k (paths_after path rs) ≡ paths_after to (drop k rs))

pub split : (ds path rs : List ℕ) (k : ℕ) → Way (0 ∷ ds) 0 path → GoesOn (length path) rs → Split ds path rs k
split ds path rs zero w g = let P : List ℕ → Type 0 = λ xs. Way (0 ∷ xs) 0 path in (path, subst P (sym (append-nil ds)) w, g, refl)
split ds path [] (suc k) w g = let P : List ℕ → Type 0 = λ xs. Way (0 ∷ xs) 0 path in (path, subst P (sym (append-nil ds)) w, tt, refl)
split ds path (d ∷ rs) (suc k) w g =
    let n = length-next_path path d g.0 g.1 in
    let next = way-next ds path d w g.0 g.1 in
    let P : ℕ → Type 0 = λ m. GoesOn m rs in
    let ih = split (ds ++ d ∷ []) (next_path path d) rs k next (subst P (sym n) g.3) in
    let Q : List ℕ → Type 0 = λ xs. Way (0 ∷ xs) 0 ih.0 in
    (ih.0, subst Q (append_assoc ds (d ∷ []) (take k rs)) ih.1, ih.2, ih.3)

pub take-paths_after : (path rs : List ℕ) (n : ℕ) → take n (paths_after path rs) ≡ paths_after path (take n rs)
take-paths_after path rs zero = refl
take-paths_after path [] (suc n) = refl
take-paths_after path (d ∷ rs) (suc n) = ap (λ (l : List (List ℕ)). next_path path d ∷ l) (take-paths_after (next_path path d) rs n)
