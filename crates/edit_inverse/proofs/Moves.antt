-- Edits of trees that take one another back.
use Rattle.std.proofs.Common.{◌≡◌, ℕ, ◌+◌, ◌-◌, ◌<◌, ◌≤◌, suc, Bool, true, false, List, ◌∷◌, length, map, take, drop, get_or, Option, Some, None, Ok, Err, sym, ap, ◌∙◌, subst, arith}
use Rattle.std.specs.Prelude.{if◌then◌else◌, nat_lt, is_some, slice_range}
use Rattle.std.proofs.lemmas.Bool.Decides.{nat_tests}
use Rattle.hold_shapes.specs.declared.origins.Origin.{Origin}
use Rattle.hold_shapes.specs.declared.shape.Shape.{Shape}
use Rattle.hold_shapes.specs.declared.shape.Shape.TheVariants.{Tree as TreeOf}
use Rattle.hold_shapes.specs.declared.edit.ShapeEdit.{ShapeEdit}
use Rattle.hold_shapes.specs.declared.edit.ShapeEdit.TheVariants.{Shift}
use Rattle.hold_shapes.specs.Causes.{Range}
use Rattle.hold_shapes.specs.Gather.{content_at}
use Rattle.hold_shapes.specs.Trees.{node, child, children, end_of, descendants}
use Rattle.hold_shapes.specs.Plans.{Planned, plan, at_place, old_places, insert_part, remove_part, move_part, place_for_child, shift, shift_child, move_subtree}
use Rattle.hold_shapes.proofs.ValidDepths.{Low, HeadAtMost, above-end, end-ok}
use Rattle.hold_shapes.proofs.ChildPlaces.{child-at, block, front-length, length-remove_part}
use Rattle.hold_shapes.proofs.Nodes.{child-numbered}
use Rattle.law_shapes.proofs.Content.{content-move_part}
use Rattle.law_shapes.proofs.Content.{end-within}
use Rattle.law_shapes.proofs.SamePrefix.{node-same, node-in, prefix-less, prefix-take}
use Rattle.law_shapes.proofs.Children.{before-part, children-more, child-at_end, child-at_place, children-less, child-descendant}
use Rattle.law_shapes.proofs.OtherChildren.{length-between}
use Rattle.edit_inverse.proofs.Blocks.{remove-inserted, move-back, put-head, end-inserted, home, length-inserted}
use Rattle.law_shapes.proofs.Lawful.{past}
use Rattle.texts.proofs.Conjunction.{both}
use Rattle.law_shapes.proofs.Parents.{deeper}
use Rattle.law_shapes.proofs.ChildLaws.{still-named}

-- the plan of an edit makes this shape, and these contents from those, the fresh ones being one that is given
abbrev pub Makes : {A : Type 0} → Shape → ShapeEdit → A → List A → Shape → List A → Type 0
Makes s e fresh xs t ys = (from : List Origin) × (plan s e ≡ Ok (t, from)) × (map (content_at xs fresh) from ≡ ys)

-- what is below a node
abbrev pub below_node : List ℕ → ℕ → List ℕ
below_node ds c = take (descendants (get_or ds c 0) (drop (c + 1) ds)) (drop (c + 1) ds)

pub left-still : (ds q : List ℕ) (p c e : ℕ) → 0 < length ds → node ds q ≡ Some p → p < c → c ≤ length ds → node (remove_part c e ds) q ≡ Some p
left-still ds q p c e z is h k =
    node-same ds (remove_part c e ds) q p z is (prefix-less (p + 1) c ds (remove_part c e ds) (omega arith) (prefix-take c ds (drop e ds) k))

pub number-below : (ds : List ℕ) (p i c : ℕ) → child ds p i ≡ Some c → nat_lt i (children ds p) ≡ true
number-below ds p i c is = sym (child-numbered ds p i) ∙ ap (λ (o : Option ℕ). is_some o) is

-- ---- a subtree put in as a child

abbrev pub IsChild : List ℕ → List ℕ → ℕ → ℕ → ℕ → Type 0
IsChild rest bs p j t =
    (child (insert_part t ((get_or rest p 0 + 1) ∷ bs) rest) p j ≡ Some t) × (children (insert_part t ((get_or rest p 0 + 1) ∷ bs) rest) p ≡ suc (children rest p))
    × (p < t) × (t ≤ length rest) × HeadAtMost (get_or rest p 0 + 1) (drop t rest)

-- before the child that has this number, or after all
pub put-child : (rest bs : List ℕ) (p j t : ℕ) (o : Option ℕ) → p < length rest → child rest p j ≡ o → j ≤ children rest p → Low (get_or rest p 0 + 2) bs → t ≡ place_for_child rest p o
    → IsChild rest bs p j t
put-child rest bs p j t None h is le l e =
    let no : false ≡ nat_lt j (children rest p) = let k = child-numbered rest p j in let P : Option ℕ → Type 0 = λ o. is_some o ≡ nat_lt j (children rest p) in subst P is k in
    let last : children rest p ≡ j = grind (arith, nat_tests, no, le) in
    let P : ℕ → Type 0 = λ i. child (insert_part (end_of rest p) ((get_or rest p 0 + 1) ∷ bs) rest) p i ≡ Some (end_of rest p) in
    let Q : ℕ → Type 0 = λ u. IsChild rest bs p j u in
    let more = children-more rest bs p (descendants (get_or rest p 0) (drop (p + 1) rest)) h l (omega arith) in
    subst Q (sym e) (subst P last (child-at_end rest bs p h), more, above-end rest p, end-within rest p h, put-head (get_or rest p 0 + 1) 0 rest (end_of rest p) (end-ok 0 rest p h))
put-child rest bs p j t (Some c) h is le l e =
    let w = child-at 0 rest p j c h is in
    let up : p < c = w.0 in
    let n = c - (p + 1) in
    let k : c ≡ p + 1 + n = omega arith in
    let R : ℕ → Type 0 = λ m. child rest p j ≡ Some m in
    let Q : ℕ → Type 0 = λ u. IsChild rest bs p j u in
    let is' = subst R k is in
    let more = children-more rest bs p n h l (child-descendant (p + 1) (get_or rest p 0) j n (drop (p + 1) rest) is') in
    let within : c < length rest = w.1 in
    let H : ℕ → Type 0 = λ u. HeadAtMost (get_or rest p 0 + 1) (drop u rest) in
    subst Q (sym (e ∙ k)) (child-at_place rest bs p j n h is', more, omega arith, omega arith, subst H k (put-head (get_or rest p 0 + 1) 0 rest c w.3))

-- after all
pub put-last : (rest bs : List ℕ) (p : ℕ) → p < length rest → Low (get_or rest p 0 + 2) bs → IsChild rest bs p (children rest p) (end_of rest p)
put-last rest bs p h l =
    let more = children-more rest bs p (descendants (get_or rest p 0) (drop (p + 1) rest)) h l (omega arith) in
    (child-at_end rest bs p h, more, above-end rest p, end-within rest p h, put-head (get_or rest p 0 + 1) 0 rest (end_of rest p) (end-ok 0 rest p h))

-- ---- a child of the node p that is taken out: its depth, its block, what is left

pub record Child (ds : List ℕ) (p i c : ℕ) : Type 0 where
  pub up : p < c
  pub within : c < length ds
  pub ends : end_of ds c ≤ length ds
  pub front : c ≤ length (remove_part c (end_of ds c) ds)
  pub there : p < length (remove_part c (end_of ds c) ds)
  pub same : get_or (remove_part c (end_of ds c) ds) p 0 ≡ get_or ds p 0
  pub depth : get_or ds c 0 ≡ get_or (remove_part c (end_of ds c) ds) p 0 + 1
  pub part : slice_range ds c (end_of ds c) ≡ (get_or (remove_part c (end_of ds c) ds) p 0 + 1) ∷ below_node ds c
  pub low : Low (get_or (remove_part c (end_of ds c) ds) p 0 + 2) (below_node ds c)
  pub less : children ds p ≡ suc (children (remove_part c (end_of ds c) ds) p)
  pub size : suc (length (below_node ds c)) ≡ end_of ds c - c

pub child-out : (ds : List ℕ) (p i c : ℕ) → p < length ds → child ds p i ≡ Some c → Child ds p i c
child-out ds p i c h is =
    let w = child-at 0 ds p i c h is in
    let up : p < c = w.0 in
    let within : c < length ds = w.1 in
    let end = end_of ds c in
    let rest = remove_part c end ds in
    let front : c ≤ length rest = front-length ds c end within in
    let same : get_or rest p 0 ≡ get_or ds p 0 = before-part ℕ 0 ds (drop end ds) c p up h in
    let deep : get_or ds c 0 ≡ get_or ds p 0 + 1 = w.2 in
    let depth : get_or ds c 0 ≡ get_or rest p 0 + 1 = omega arith in
    let e : c ≡ p + 1 + (c - (p + 1)) = omega arith in
    let R : ℕ → Type 0 = λ m. child ds p i ≡ Some m in
    let L : ℕ → Type 0 = λ m. children ds p ≡ suc (children (remove_part m (end_of ds m) ds) p) in
    let b : slice_range ds c end ≡ get_or ds c 0 ∷ below_node ds c = block ds c within in
    let D : ℕ → Type 0 = λ n. Low n (below_node ds c) in
    let two : get_or ds c 0 + 1 ≡ get_or rest p 0 + 2 = omega arith in
    let n = length-between ds c end (past ds c) (end-within ds c within) in
    let m = ap (λ (l : List ℕ). length l) b in
    record {
      up = up;
      within = within;
      ends = end-within ds c within;
      front = front;
      there = omega arith;
      same = same;
      depth = depth;
      part = b ∙ ap (λ (d : ℕ). d ∷ below_node ds c) depth;
      low = subst D two (deeper (get_or ds c 0) (drop (c + 1) ds));
      less = subst L (sym e) (children-less ds p i (c - (p + 1)) h (subst R e is));
      size = omega arith;
    }

-- ---- shift

shift-plan : (ds : List ℕ) (i j p c : ℕ) → nat_lt i (children ds p) ≡ true → nat_lt j (children ds p) ≡ true → child ds p i ≡ Some c
    → shift ds i j p ≡ move_subtree ds c (end_of ds c) (place_for_child (remove_part c (end_of ds c) ds) p (child (remove_part c (end_of ds c) ds) p j))
shift-plan ds i j p c h k is =
    ap (λ (b : Bool). if b then shift_child ds p j (child ds p i) else Err Range) (both (nat_lt i (children ds p)) (nat_lt j (children ds p)) h k)
    ∙ ap (λ (o : Option ℕ). shift_child ds p j o) is

-- a block that stands as child j of the node p at the place t goes home to the place c, as the child i that it was
pub shift-home : {A : Type 0} (ds q : List ℕ) (p i j c t : ℕ) (fresh : A) (xs : List A) → 0 < length ds → node ds q ≡ Some p → child ds p i ≡ Some c → length xs ≡ length ds
    → IsChild (remove_part c (end_of ds c) ds) (below_node ds c) p j t
    → Makes (TreeOf (insert_part t (slice_range ds c (end_of ds c)) (remove_part c (end_of ds c) ds))) (Shift q j i) fresh
    (insert_part t (slice_range xs c (end_of ds c)) (remove_part c (end_of ds c) xs)) (TreeOf ds) xs
shift-home ds q p i j c t fresh xs z is here size put =
    let inside : p < length ds = node-in ds q p z is in
    let o = child-out ds p i c inside here in
    let end = end_of ds c in
    let rest = remove_part c end ds in
    let bs = below_node ds c in
    let d = get_or rest p 0 + 1 in
    let part = slice_range ds c end in
    let new = insert_part t part rest in
    let room : t ≤ length rest = put.3 in
    let up : p < t = put.2 in
    let B : List ℕ → Type 0 = λ block. (child (insert_part t block rest) p j ≡ Some t) × (children (insert_part t block rest) p ≡ suc (children rest p)) × (end_of (insert_part t block rest) t ≡ t + suc (length bs)) in
    let k : B part = subst B (sym o.part) (put.0, put.1, end-inserted rest bs t d room (let N : ℕ → Type 0 = λ n. Low n bs in let e : get_or rest p 0 + 2 ≡ d + 1 = omega arith in subst N e o.low) put.4) in
    let named : node rest q ≡ Some p = left-still ds q p c end z is o.up (omega (arith, o.within)) in
    let full : 0 < length rest = let a = o.there in omega arith in
    let at : node new q ≡ Some p = still-named rest part q p t full named up room in
    let count : children new p ≡ children ds p = k.1 ∙ sym o.less in
    let f = t + suc (length bs) in
    let ends : end_of new t ≡ f = k.2 in
    let long : length part ≡ suc (length bs) = ap (λ (l : List ℕ). length l) o.part in
    let e : f ≡ t + length part = omega arith in
    let left : remove_part t f new ≡ rest = remove-inserted t part rest f room e in
    let goes : place_for_child (remove_part t (end_of new t) new) p (child (remove_part t (end_of new t) new) p i) ≡ c =
    ap (λ (n : ℕ). place_for_child (remove_part t n new) p (child (remove_part t n new) p i)) ends
    ∙ (ap (λ (l : List ℕ). place_for_child l p (child l p i)) left ∙ home ds p i c inside here) in
    let moves : shift new j i p ≡ move_subtree new t (end_of new t) (place_for_child (remove_part t (end_of new t) new) p (child (remove_part t (end_of new t) new) p i)) =
    shift-plan new j i p t (number-below new p j t k.0) (ap (λ (n : ℕ). nat_lt i n) count ∙ number-below ds p i c here) k.0 in
    let back : move_part t f c new ≡ ds = move-back ds c end t f (past ds c) o.ends room (let s = o.size in omega arith) in
    let xn = length-remove_part ℕ ds c end (past ds c) o.ends in
    let yn = length-remove_part _ xs c end (past ds c) (let s = o.ends in omega arith) in
    let xroom : t ≤ length (remove_part c end xs) = omega arith in
    let ys = insert_part t (slice_range xs c end) (remove_part c end xs) in
    let homes : move_part t f c ys ≡ xs = move-back xs c end t f (past ds c) (let s = o.ends in omega arith) xroom (let s = o.size in omega arith) in
    let xlong = length-between xs c end (past ds c) (let s = o.ends in omega arith) in
    let same : length new ≡ length ys = length-inserted t part rest (slice_range xs c end) (remove_part c end xs) (let s = o.size in omega arith) (omega arith) in
    let P : Planned → Type 0 = λ pl. at_place (node new q) (shift new j i) ≡ pl in (
      move_part t f c (old_places (length new)),
      ap (λ (r : Option ℕ). at_place r (shift new j i)) at
          ∙ (moves
          ∙ (ap (λ (n : ℕ). move_subtree new t (end_of new t) n) goes
          ∙ (ap (λ (n : ℕ). move_subtree new t n c) ends
          ∙ ap (λ (l : List ℕ). Ok (TreeOf l, move_part t f c (old_places (length new)))) back))),
      sym (content-move_part _ fresh ys (length new) t f c same) ∙ homes,
    )
