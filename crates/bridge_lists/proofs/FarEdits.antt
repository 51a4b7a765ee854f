-- Any edit of the far list, as its plan says.
use Rattle.std.proofs.Common.{◌≡◌, ℕ, ◌+◌, ◌-◌, ◌<◌, Bool, true, false, List, [], ◌++◌, length, map, replicate, Option, Some, None, Result, Ok, Err, refl, sym, ap, ◌∙◌, arith}
use Rattle.std.specs.Prelude.{if◌then◌else◌, ◌&&◌, nat_eq, nat_lt, nat_le}
use Rattle.std.specs.List.{insert, remove}
use Rattle.std.proofs.lemmas.List.{length-map}
use Rattle.hold_shapes.specs.declared.shape.Shape.{Shape}
use Rattle.hold_shapes.specs.declared.origins.Origin.{Origin}
use Rattle.hold_shapes.specs.declared.origins.Origin.TheVariants.{Old, Fresh}
use Rattle.hold_shapes.specs.declared.edit.ShapeEdit.{ShapeEdit}
use Rattle.hold_shapes.specs.declared.edit.ShapeEdit.TheVariants.{Ins, Del, MoveItem, Reorder, PutKey, DropKey, RenameKey, Graft, Prune, Shift, Hang}
use Rattle.hold_shapes.specs.Causes.{PlanCause, Range, Place, Length}
use Rattle.hold_shapes.specs.Gather.{content_at}
use Rattle.hold_shapes.specs.Plans.{Planned, plan_list, list_of, old_places, is_count, is_each_new}
use Rattle.bridge_links.specs.declared.link.Link.{Link}
use Rattle.bridge_links.specs.declared.link.Link.TheVariants.{Stays}
use Rattle.bridge_links.specs.Links.{gathered}
use Rattle.bridge_lists.specs.Carried.{edit_links, edit_size}
use Rattle.bridge_lists.specs.Laws.{contents_of, edited}
use Rattle.bridge_lists.proofs.Edits.{ins_plan, del_plan, move_plan, order_plan, left-true, right-true, below-of, most-of, eq-of}
use Rattle.bridge_lists.proofs.Plans.{ins-edited, del-edited, move-edited, order-edited, size-same, size-longer, size-moved}

-- a plan of a list: its shape, and its contents by links
pub record IsFollowed {A : Type 0} (a : A) (e : ShapeEdit) (xs : List A) (p : Shape × List Origin) : Type 0 where
  pub shape : p.0 ≡ list_of (edit_size (length xs) e)
  pub contents : map (content_at xs a) p.1 ≡ gathered (edit_links (length xs) e) a xs
  pub size : length (edit_links (length xs) e) ≡ edit_size (length xs) e

test-ok : (t : Bool) (q : Planned) (cause : PlanCause) (p : Shape × List Origin) → (if t then q else Err cause) ≡ Ok p → (t ≡ true) × (q ≡ Ok p)
test-ok true q cause p h = (refl, h)
test-ok false q cause p h = absurd cc

some-is : {A : Type 0} (x y : A) → Some x ≡ Some y → x ≡ y
some-is x y h = cc

pub plan-followed : {A : Type 0} (a : A) (e : ShapeEdit) (xs : List A) (p : Shape × List Origin) → plan_list (length xs) e ≡ Ok p → IsFollowed a e xs p
plan-followed a (Ins c) xs p h =
    let n = length xs in
    let t = test-ok (is_count c) (ins_plan n c) Range p h in
    let is : (list_of (n + c), old_places n ++ replicate c Fresh) ≡ p = cc (t.1) in
    record {
      shape = sym (ap (λ (q : Shape × List Origin). q.0) is);
      contents = some-is (map (content_at xs a) p.1) (gathered (edit_links n (Ins c)) a xs) (sym (ap (contents_of a xs) h) ∙ ins-edited a c xs t.0);
      size = size-longer n c;
    }
plan-followed a (Del c) xs p h =
    let n = length xs in
    let t = test-ok (is_count c && nat_le c n) (del_plan n c) Range p h in
    let is : (list_of (n - c), old_places (n - c)) ≡ p = cc (t.1) in
    record {
      shape = sym (ap (λ (q : Shape × List Origin). q.0) is);
      contents = some-is (map (content_at xs a) p.1) (gathered (edit_links n (Del c)) a xs)
          (sym (ap (contents_of a xs) h) ∙ del-edited a c xs (left-true (is_count c) (nat_le c n) t.0) (most-of c n (right-true (is_count c) (nat_le c n) t.0)));
      size = size-same (n - c);
    }
plan-followed a (MoveItem i j) xs p h =
    let n = length xs in
    let t = test-ok (nat_lt i n && nat_lt j n) (move_plan n i j) Place p h in
    let is : (list_of n, insert (remove (old_places n) i) j (Old i)) ≡ p = cc (t.1) in
    let low = below-of i n (left-true (nat_lt i n) (nat_lt j n) t.0) in
    record {
      shape = sym (ap (λ (q : Shape × List Origin). q.0) is);
      contents = some-is (map (content_at xs a) p.1) (gathered (edit_links n (MoveItem i j)) a xs)
          (sym (ap (contents_of a xs) h) ∙ move-edited a i j xs low (below-of j n (right-true (nat_lt i n) (nat_lt j n) t.0)));
      size = size-moved n i j low;
    }
plan-followed a (Reorder f) xs p h =
    let n = length xs in
    let t = test-ok (nat_eq (length f) n) (order_plan n f) Length p h in
    let o = test-ok (is_each_new n [] f) (Ok (list_of n, map Old f)) Range p t.1 in
    let is : (list_of n, map Old f) ≡ p = cc (o.1) in
    let long : length f ≡ n = eq-of (length f) n t.0 in
    record {
      shape = sym (ap (λ (q : Shape × List Origin). q.0) is);
      contents = some-is (map (content_at xs a) p.1) (gathered (edit_links n (Reorder f)) a xs) (sym (ap (contents_of a xs) h) ∙ order-edited a f xs long o.0);
      size = length-map f Stays ∙ long;
    }
plan-followed a (PutKey k) xs p h = absurd cc
plan-followed a (DropKey k) xs p h = absurd cc
plan-followed a (RenameKey k l) xs p h = absurd cc
plan-followed a (Graft q) xs p h = absurd cc
plan-followed a (Prune q) xs p h = absurd cc
plan-followed a (Shift q i j) xs p h = absurd cc
plan-followed a (Hang k q) xs p h = absurd cc
