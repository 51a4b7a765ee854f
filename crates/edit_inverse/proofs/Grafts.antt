-- The next node of a tree grafted, and a last child pruned.
use Rattle.std.proofs.Common.{◌≡◌, ℕ, ◌+◌, ◌-◌, ◌<◌, ◌≤◌, suc, zero, Bool, true, false, List, [], ◌∷◌, ◌++◌, length, take, drop, get_or, Option, Some, None, Ok, Err, refl, sym, ap, ◌∙◌, subst, arith}
use Rattle.std.specs.Prelude.{if◌then◌else◌, nat_lt, nat_eq}
use Rattle.std.specs.List.{insert}
use Rattle.std.proofs.lemmas.Bool.Decides.{nat_tests}
use Rattle.std.proofs.lemmas.List.{length-append, get_or_append_left, append_assoc, drop-drop}
use Rattle.std.proofs.Math.Seq.{take-append_seam, drop-append_seam}
use Rattle.hold_shapes.specs.declared.origins.Origin.{Origin}
use Rattle.hold_shapes.specs.declared.origins.Origin.TheVariants.{Fresh}
use Rattle.hold_shapes.specs.declared.shape.Shape.{Shape}
use Rattle.hold_shapes.specs.declared.shape.Shape.TheVariants.{Tree as TreeOf}
use Rattle.hold_shapes.specs.declared.edit.ShapeEdit.TheVariants.{Graft, Prune}
use Rattle.hold_shapes.specs.Causes.{Range, Deep}
use Rattle.hold_shapes.specs.Trees.{node, child, child_from, children, children_of, end_of, descendants}
use Rattle.hold_shapes.specs.Plans.{plan, at_place, old_places, remove_part, graft, prune, prune_child}
use Rattle.edit_inverse.specs.Paths.{next_path, parent_path}
use Rattle.hold_shapes.proofs.ValidDepths.{HeadAtMost, end-zero, end-suc}
use Rattle.hold_shapes.proofs.ChildPlaces.{child-at}
use Rattle.law_shapes.proofs.Content.{content-insert}
use Rattle.law_shapes.proofs.Children.{not-before, next-place, children-skip}
use Rattle.edit_inverse.proofs.Ways.{Way, on-way, end-before, way-last, way-next, parent-next_path}
use Rattle.edit_inverse.proofs.Moves.{Makes}
use Rattle.edit_inverse.proofs.Returns.{at-ok, if-ok, else-ok, ok-shape, ok-origins}
use Rattle.law_shapes.proofs.Parents.{next as after-all}

-- ---- a graft

pub graft-makes : {A : Type 0} (ds q : List ℕ) (p : ℕ) (fresh : A) (xs : List A) → node ds q ≡ Some p → get_or ds p 0 < 15 → length xs ≡ length ds
    → Makes (TreeOf ds) (Graft q) fresh xs (TreeOf (insert ds (end_of ds p) (get_or ds p 0 + 1))) (insert xs (end_of ds p) fresh)
graft-makes ds q p fresh xs is room size =
    let d = get_or ds p 0 in
    let new = insert ds (end_of ds p) (d + 1) in
    let from = insert (old_places (length ds)) (end_of ds p) Fresh in
    let low : nat_lt d 15 ≡ true = grind (arith, nat_tests) in (
      from,
      ap (λ (o : Option ℕ). at_place o (graft ds)) is ∙ ap (λ (b : Bool). if b then Ok (TreeOf new, from) else Err Deep) low,
      sym (content-insert _ fresh xs (length ds) (end_of ds p) Fresh (sym size)),
    )

-- what was grafted, from its plan
pub graft-is : (ds q : List ℕ) (s : Shape) (from : List Origin) → plan (TreeOf ds) (Graft q) ≡ Ok (s, from)
    → (p : ℕ) × (node ds q ≡ Some p) × (TreeOf (insert ds (end_of ds p) (get_or ds p 0 + 1)) ≡ s) × (insert (old_places (length ds)) (end_of ds p) Fresh ≡ from)
graft-is ds q s from e =
    let a = at-ok (node ds q) (graft ds) (s, from) e in
    let p = a.0 in
    let new = TreeOf (insert ds (end_of ds p) (get_or ds p 0 + 1)) in
    let list = insert (old_places (length ds)) (end_of ds p) Fresh in
    let b = if-ok (nat_lt (get_or ds p 0) 15) (Ok (new, list)) Deep (s, from) a.2 in
    (p, a.1, ok-shape new s list from (Ok (new, list)) refl b.1, ok-origins new s list from (Ok (new, list)) refl b.1)

insert-seam : {X : Type 0} (xs zs : List X) (n : ℕ) (x : X) → n ≡ length xs → insert (xs ++ zs) n x ≡ xs ++ x ∷ zs
insert-seam xs zs n x e =
    let P : ℕ → Type 0 = λ k. insert (xs ++ zs) k x ≡ xs ++ x ∷ zs in
    let a = take-append_seam xs zs in
    let b = drop-append_seam xs zs in
    subst P (sym e) (ap (λ (l : List _). l ++ x ∷ drop (length xs) (xs ++ zs)) a ∙ ap (λ (l : List _). xs ++ x ∷ l) b)

-- the next node of a tree, before a tail of nodes that are no descendants of its parent
pub graft-next : {A : Type 0} (ds tail path : List ℕ) (d : ℕ) (fresh : A) (xs zs : List A) → Way (0 ∷ ds) 0 path → 1 ≤ d → d ≤ length path + 1 → d ≤ 15 → HeadAtMost (d - 1) tail
    → length xs ≡ length (0 ∷ ds) → length zs ≡ length tail
    → Makes (TreeOf ((0 ∷ ds) ++ tail)) (Graft (parent_path (next_path path d))) fresh (xs ++ zs) (TreeOf ((0 ∷ ds) ++ d ∷ tail)) (xs ++ fresh ∷ zs)
graft-next ds tail path d fresh xs zs w low high most after size sizes =
    let fs : List ℕ = 0 ∷ ds in
    let all = fs ++ tail in
    let o = on-way fs tail 0 path (d - 1) w (omega arith) in
    let a = o.0 in
    let there : node all (take (d - 1) path) ≡ Some a = o.1 in
    let within : a < length fs = o.2 in
    let depth : get_or fs a 0 ≡ 0 + (d - 1) = o.3 in
    let same : get_or all a 0 ≡ get_or fs a 0 = get_or_append_left fs tail 0 a within in
    let one : get_or all a 0 + 1 ≡ d = omega arith in
    let H : ℕ → Type 0 = λ n. HeadAtMost n tail in
    let less : d - 1 ≡ get_or fs a 0 = omega arith in
    let ends : end_of all a ≡ length fs = end-before fs tail a within o.4 (subst H less after) in
    let l1 = length-append fs tail in
    let l2 = length-append xs zs in
    let P : List ℕ → Type 0 = λ q. node all q ≡ Some a in
    let named : node all (parent_path (next_path path d)) ≡ Some a = subst P (sym (parent-next_path path d low high)) there in
    let got = graft-makes all (parent_path (next_path path d)) a fresh (xs ++ zs) named (omega arith) (omega arith) in
    let new : insert all (end_of all a) (get_or all a 0 + 1) ≡ fs ++ d ∷ tail =
    ap (λ (n : ℕ). insert all (end_of all a) n) one ∙ insert-seam fs tail (end_of all a) d ends in
    let list : insert (xs ++ zs) (end_of all a) fresh ≡ xs ++ fresh ∷ zs = insert-seam xs zs (end_of all a) fresh (ends ∙ sym size) in
    let Q : List ℕ → List _ → Type 0 = λ es ys. Makes (TreeOf all) (Graft (parent_path (next_path path d))) fresh (xs ++ zs) (TreeOf es) ys in
    subst (λ (ys : List _). Q (fs ++ d ∷ tail) ys) list (subst (λ (es : List ℕ). Q es (insert (xs ++ zs) (end_of all a) fresh)) new got)

-- the new node has the next path
pub next-named : (ds tail path : List ℕ) (d : ℕ) → Way (0 ∷ ds) 0 path → 1 ≤ d → d ≤ length path + 1 → node ((0 ∷ ds) ++ d ∷ tail) (next_path path d) ≡ Some (length (0 ∷ ds))
next-named ds tail path d w low high =
    let next = way-next ds path d w low high in
    let l = length-append ds (d ∷ []) in
    let P : List ℕ → Type 0 = λ es. node (0 ∷ es) (next_path path d) ≡ Some (length (0 ∷ ds)) in
    subst P (append_assoc ds (d ∷ []) tail) (way-last (0 ∷ (ds ++ d ∷ [])) tail 0 (next_path path d) (length (0 ∷ ds)) next (omega arith))

-- ---- a last child

head-case : (t u v : Bool) (at : ℕ) (o1 o2 : Option ℕ) → (o1 ≡ Some (at + 0) → ⊥) → (o2 ≡ Some (at + 0) → ⊥)
    → (if t then (if u then (if v then Some at else o1) else o2) else None) ≡ Some (at + 0) → (t ≡ true) × (u ≡ true) × (v ≡ true)
head-case true true true at o1 o2 f g is = (refl, refl, refl)
head-case true true false at o1 o2 f g is = absurd (f is)
head-case true false v at o1 o2 f g is = absurd (g is)
head-case false u v at o1 o2 f g is = cc

next-case : (t u v : Bool) (at n i m : ℕ) (o1 o2 : Option ℕ) (Q : Type 0) → nat_eq i 0 ≡ v → (if t then (if u then (if v then Some at else o1) else o2) else None) ≡ Some (at + suc n)
    → (if t then (if u then suc m else m) else 0) ≡ suc i → (o1 ≡ Some (at + suc n) → m ≡ suc (i - 1) → Q) → (o2 ≡ Some (at + suc n) → m ≡ suc i → Q) → Q
next-case true true true at n i m o1 o2 Q z is k f g = let same : at ≡ at + suc n = cc in absurd (omega arith)
next-case true true false at n i m o1 o2 Q z is k f g = f is (grind (arith, nat_tests))
next-case true false v at n i m o1 o2 Q z is k f g = g is k
next-case false u v at n i m o1 o2 Q z is k f g = cc

no-child : (d : ℕ) (es : List ℕ) → HeadAtMost (d + 1) es → children_of d es ≡ 0 → HeadAtMost d es
no-child d [] h k = tt
no-child d (e ∷ es) h k = no-child-step (nat_lt d e) (nat_eq e (d + 1)) d e (children_of d es) refl refl h k
  where
    no-child-step : (t u : Bool) (d e m : ℕ) → nat_lt d e ≡ t → nat_eq e (d + 1) ≡ u → e ≤ d + 1 → (if t then (if u then suc m else m) else 0) ≡ 0 → e ≤ d
    no-child-step true true d e m h j le k = absurd (omega arith)
    no-child-step true false d e m h j le k = grind (arith, nat_tests)
    no-child-step false u d e m h j le k = grind (arith, nat_tests)

last-child : (at d i n : ℕ) (es : List ℕ) → child_from at d i es ≡ Some (at + n) → children_of d es ≡ suc i → HeadAtMost d (drop (end_of es n) es)
last-child at d i n [] is k = cc
last-child at d i zero (e ∷ es) is k =
    let w = head-case (nat_lt d e) (nat_eq e (d + 1)) (nat_eq i 0) at (child_from (at + 1) d (i - 1) es) (child_from (at + 1) d i es)
    (not-before at d (i - 1) es) (not-before at d i es) is in
    let same : e ≡ d + 1 = grind (arith, nat_tests, w.1) in
    let first : i ≡ 0 = grind (arith, nat_tests, w.2) in
    let count : suc (children_of d es) ≡ suc i = rw (w.0, w.1) at k in
    let none : children_of d (drop (descendants (d + 1) es) es) ≡ 0 = children-skip d es ∙ (let z : children_of d es ≡ 0 = omega arith in z) in
    let P : ℕ → Type 0 = λ x. HeadAtMost d (drop (descendants x es) es) in
    rw (end-zero e es) (subst P (sym same) (no-child d (drop (descendants (d + 1) es) es) (after-all (d + 1) es) none))
last-child at d i (suc n) (e ∷ es) is k =
    rw (end-suc e es n)
    (next-case (nat_lt d e) (nat_eq e (d + 1)) (nat_eq i 0) at n i (children_of d es) (child_from (at + 1) d (i - 1) es) (child_from (at + 1) d i es)
    (HeadAtMost d (drop (end_of es n) es)) refl is k
    (λ h j. last-child (at + 1) d (i - 1) n es (next-place at n (λ m. child_from (at + 1) d (i - 1) es ≡ Some m) h) j)
    (λ h j. last-child (at + 1) d i n es (next-place at n (λ m. child_from (at + 1) d i es ≡ Some m) h) j))

end-drop : (ds : List ℕ) (k n : ℕ) → k ≤ length ds → end_of ds (k + n) ≡ k + end_of (drop k ds) n
end-drop ds zero n h = let e : 0 + n ≡ n = omega arith in rw e (omega arith)
end-drop [] (suc k) n h = absurd (omega arith)
end-drop (d ∷ ds) (suc k) n h =
    let e : suc k + n ≡ suc (k + n) = omega arith in
    let ih = end-drop ds k n (omega arith) in
    rw (e, end-suc d ds (k + n)) (omega arith)

-- behind the subtree of a node's last child no descendant of the node is left
pub after-last : (ds : List ℕ) (p n c : ℕ) → p < length ds → child ds p n ≡ Some c → children ds p ≡ suc n → HeadAtMost (get_or ds p 0) (drop (end_of ds c) ds)
after-last ds p n c h is many =
    let w = child-at 0 ds p n c h is in
    let up : p < c = w.0 in
    let m = c - (p + 1) in
    let e : c ≡ p + 1 + m = omega arith in
    let R : ℕ → Type 0 = λ k. child ds p n ≡ Some k in
    let low = last-child (p + 1) (get_or ds p 0) n m (drop (p + 1) ds) (subst R e is) many in
    let ends : end_of ds c ≡ p + 1 + end_of (drop (p + 1) ds) m = ap (end_of ds) e ∙ end-drop ds (p + 1) m (omega arith) in
    let P : List ℕ → Type 0 = λ l. HeadAtMost (get_or ds p 0) l in
    subst P (drop-drop (end_of (drop (p + 1) ds) m) (p + 1) ds ∙ ap (λ (k : ℕ). drop k ds) (sym ends)) low

-- what was pruned, from its plan
pub prune-is : (ds q : List ℕ) (s : Shape) (from : List Origin) → 0 < length ds → plan (TreeOf ds) (Prune q) ≡ Ok (s, from)
    → (p n c : ℕ) × (node ds q ≡ Some p) × (children ds p ≡ suc n) × (child ds p n ≡ Some c) × (child ds p (children ds p - 1) ≡ Some c)
    × (TreeOf (remove_part c (end_of ds c) ds) ≡ s) × (remove_part c (end_of ds c) (old_places (length ds)) ≡ from)
prune-is ds q s from z e =
    let a = at-ok (node ds q) (prune ds) (s, from) e in
    let p = a.0 in
    let b = else-ok (nat_eq (children ds p) 0) (prune_child ds (child ds p (children ds p - 1))) Range (s, from) a.2 in
    by-child p a.1 (child ds p (children ds p - 1)) refl b.0 b.1
  where
    by-child : (p : ℕ) → node ds q ≡ Some p → (o : Option ℕ) → child ds p (children ds p - 1) ≡ o → nat_eq (children ds p) 0 ≡ false → prune_child ds o ≡ Ok (s, from)
        → (p n c : ℕ) × (node ds q ≡ Some p) × (children ds p ≡ suc n) × (child ds p n ≡ Some c) × (child ds p (children ds p - 1) ≡ Some c)
        × (TreeOf (remove_part c (end_of ds c) ds) ≡ s) × (remove_part c (end_of ds c) (old_places (length ds)) ≡ from)
    by-child p is None last some k = cc
    by-child p is (Some c) last some k =
        let new = TreeOf (remove_part c (end_of ds c) ds) in
        let list = remove_part c (end_of ds c) (old_places (length ds)) in
        (p, children ds p - 1, c, is, grind (arith, nat_tests), last, last, ok-shape new s list from (Ok (new, list)) refl k, ok-origins new s list from (Ok (new, list)) refl k)
