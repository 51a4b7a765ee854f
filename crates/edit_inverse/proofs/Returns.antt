-- Edits of trees taken back: graft, shift, hang.
use Rattle.std.proofs.Common.{◌≡◌, ℕ, ◌+◌, ◌-◌, ◌<◌, ◌≤◌, suc, Bool, true, false, ◌&&◌, List, [], ◌∷◌, length, map, get_or, Option, Some, None, Ok, Err, refl, sym, ap, ◌∙◌, subst, arith}
use Rattle.std.specs.Prelude.{if◌then◌else◌, nat_lt, nat_eq}
use Rattle.std.specs.List.{insert}
use Rattle.std.proofs.lemmas.Bool.Decides.{nat_tests}
use Rattle.hold_shapes.specs.declared.origins.Origin.{Origin}
use Rattle.hold_shapes.specs.declared.shape.Shape.{Shape}
use Rattle.hold_shapes.specs.declared.shape.Shape.TheVariants.{Tree as TreeOf}
use Rattle.hold_shapes.specs.declared.edit.ShapeEdit.TheVariants.{Prune, Shift}
use Rattle.hold_shapes.specs.Causes.{PlanCause, Range}
use Rattle.hold_shapes.specs.Gather.{content_at}
use Rattle.hold_shapes.specs.Trees.{node, child, children, end_of}
use Rattle.hold_shapes.specs.Plans.{Planned, plan, at_place, old_places, insert_part, remove_part, move_part, prune, prune_child, place_for_child, shift, shift_child}
use Rattle.law_shapes.proofs.Content.{content-remove_part, content-move_part}
use Rattle.law_shapes.proofs.SamePrefix.{node-in}
use Rattle.edit_inverse.proofs.Blocks.{remove-inserted, end-inserted, length-inserted}
use Rattle.edit_inverse.proofs.Moves.{Makes, below_node, put-child, put-last, child-out, shift-home}
use Rattle.law_shapes.proofs.ChildLaws.{still-named}

-- ---- what a plan that is there says

pub at-ok : (o : Option ℕ) (go : ℕ → Planned) (r : Shape × List Origin) → at_place o go ≡ Ok r → (p : ℕ) × (o ≡ Some p) × (go p ≡ Ok r)
at-ok None go r e = cc
at-ok (Some p) go r e = (p, refl, e)

pub if-ok : (b : Bool) (x : Planned) (cause : PlanCause) (r : Shape × List Origin) → (if b then x else Err cause) ≡ Ok r → (b ≡ true) × (x ≡ Ok r)
if-ok true x cause r e = (refl, e)
if-ok false x cause r e = cc

pub else-ok : (b : Bool) (x : Planned) (cause : PlanCause) (r : Shape × List Origin) → (if b then Err cause else x) ≡ Ok r → (b ≡ false) × (x ≡ Ok r)
else-ok true x cause r e = cc
else-ok false x cause r e = (refl, e)

ok-same : (x y : Shape × List Origin) (r : Planned) → r ≡ Ok x → r ≡ Ok y → x ≡ y
ok-same x y r e k = let h : Ok x ≡ Ok y = sym e ∙ k in cc

pub ok-shape : (s u : Shape) (f g : List Origin) (x : Planned) → x ≡ Ok (s, f) → x ≡ Ok (u, g) → s ≡ u
ok-shape s u f g x e k = ap (λ (z : Shape × List Origin). z.0) (ok-same (s, f) (u, g) x e k)

pub ok-origins : (s u : Shape) (f g : List Origin) (x : Planned) → x ≡ Ok (s, f) → x ≡ Ok (u, g) → f ≡ g
ok-origins s u f g x e k = ap (λ (z : Shape × List Origin). z.1) (ok-same (s, f) (u, g) x e k)

-- ---- prune, and a graft taken back

-- the last child is pruned
pub prune-makes : {A : Type 0} (ds q : List ℕ) (p n c : ℕ) (fresh : A) (xs : List A) → node ds q ≡ Some p → children ds p ≡ suc n → child ds p n ≡ Some c → length xs ≡ length ds
    → Makes (TreeOf ds) (Prune q) fresh xs (TreeOf (remove_part c (end_of ds c) ds)) (remove_part c (end_of ds c) xs)
prune-makes ds q p n c fresh xs is many last size =
    let some : nat_eq (children ds p) 0 ≡ false = grind (arith, nat_tests) in
    let e : children ds p - 1 ≡ n = omega arith in (
      remove_part c (end_of ds c) (old_places (length ds)),
      ap (λ (o : Option ℕ). at_place o (prune ds)) is
          ∙ (ap (λ (b : Bool). if b then Err Range else prune_child ds (child ds p (children ds p - 1))) some
          ∙ (ap (λ (m : ℕ). prune_child ds (child ds p m)) e
          ∙ ap (λ (o : Option ℕ). prune_child ds o) last)),
      sym (content-remove_part _ fresh xs (length ds) c (end_of ds c) (sym size)),
    )

-- the node that was grafted is pruned
pub graft-back : {A : Type 0} (ds q : List ℕ) (p : ℕ) (fresh x : A) (xs : List A) → 0 < length ds → node ds q ≡ Some p → length xs ≡ length ds
    → Makes (TreeOf (insert ds (end_of ds p) (get_or ds p 0 + 1))) (Prune q) fresh (insert xs (end_of ds p) x) (TreeOf ds) xs
graft-back ds q p fresh x xs z is size =
    let inside : p < length ds = node-in ds q p z is in
    let t = end_of ds p in
    let d = get_or ds p 0 + 1 in
    let new = insert_part t (d ∷ []) ds in
    let ys = insert_part t (x ∷ []) xs in
    let put = put-last ds [] p inside tt in
    let room : t ≤ length ds = put.3 in
    let at : node new q ≡ Some p = still-named ds (d ∷ []) q p t z is put.2 room in
    let ends : end_of new t ≡ t + suc 0 = end-inserted ds [] t d room tt put.4 in
    let same : length ys ≡ length new = length-inserted t (x ∷ []) xs (d ∷ []) ds refl size in
    let k = prune-makes new q p (children ds p) t fresh ys at put.1 put.0 same in
    let P : List ℕ → List _ → Type 0 = λ es zs. Makes (TreeOf new) (Prune q) fresh ys (TreeOf es) zs in
    let e : end_of new t ≡ t + length (d ∷ []) = ends in
    subst (λ (zs : List _). P ds zs) (remove-inserted t (x ∷ []) xs (end_of new t) (omega arith) ends)
    (subst (λ (es : List ℕ). P es (remove_part t (end_of new t) ys)) (remove-inserted t (d ∷ []) ds (end_of new t) room e) k)

-- ---- shift

-- what a shift makes, and that it is taken back
pub shift-back : {A : Type 0} (ds q : List ℕ) (i j : ℕ) (s : Shape) (from : List Origin) (fresh : A) (xs : List A) → 0 < length ds → length xs ≡ length ds
    → plan (TreeOf ds) (Shift q i j) ≡ Ok (s, from) → Makes s (Shift q j i) fresh (map (content_at xs fresh) from) (TreeOf ds) xs
shift-back ds q i j s from fresh xs z size e =
    let a = at-ok (node ds q) (shift ds i j) (s, from) e in
    let p = a.0 in
    let b = if-ok (nat_lt i (children ds p) && nat_lt j (children ds p)) (shift_child ds p j (child ds p i)) Range (s, from) a.2 in
    moved p a.1 (child ds p i) refl (second (nat_lt i (children ds p)) (nat_lt j (children ds p)) b.0) b.1
  where
    second : (a b : Bool) → (a && b) ≡ true → b ≡ true
    second true b h = h
    second false b h = cc

    moved : (p : ℕ) → node ds q ≡ Some p → (o : Option ℕ) → child ds p i ≡ o → nat_lt j (children ds p) ≡ true → shift_child ds p j o ≡ Ok (s, from)
        → Makes s (Shift q j i) fresh (map (content_at xs fresh) from) (TreeOf ds) xs
    moved p is None here below k = cc
    moved p is (Some c) here below k =
        let inside : p < length ds = node-in ds q p z is in
        let o = child-out ds p i c inside here in
        let end = end_of ds c in
        let rest = remove_part c end ds in
        let less = o.less in
        let most : j ≤ children rest p = grind (arith, nat_tests, less, below) in
        let t = place_for_child rest p (child rest p j) in
        let put = put-child rest (below_node ds c) p j t (child rest p j) o.there refl most o.low refl in
        let got = shift-home ds q p i j c t fresh xs z is here size put in
        let new : TreeOf (move_part c end t ds) ≡ s = ok-shape (TreeOf (move_part c end t ds)) s (move_part c end t (old_places (length ds))) from (shift_child ds p j (Some c)) refl k in
        let list : move_part c end t (old_places (length ds)) ≡ from = ok-origins (TreeOf (move_part c end t ds)) s (move_part c end t (old_places (length ds))) from (shift_child ds p j (Some c)) refl k in
        let P : Shape → List _ → Type 0 = λ u ys. Makes u (Shift q j i) fresh ys (TreeOf ds) xs in
        subst (λ (l : List Origin). P s (map (content_at xs fresh) l)) list
        (subst (λ (ys : List _). P s ys) (content-move_part _ fresh xs (length ds) c end t (sym size))
        (subst (λ (u : Shape). P u (move_part c end t xs)) new got))
