-- A new shape has as many places as its plan has origins.
use Rattle.std.proofs.Common.{◌≡◌, ℕ, ◌+◌, ◌-◌, ◌<◌, ◌≤◌, min, Bool, true, false, ◌&&◌, List, [], ◌∷◌, ◌++◌, length, map, take, drop, get_or, replicate, Option, Some, None, Ok, Err, refl, sym, ap, ◌∙◌, subst, arith}
use Rattle.std.specs.Prelude.{if◌then◌else◌, nat_le, nat_lt, nat_eq, bytes_eq, slice_range}
use Rattle.std.specs.List.{insert, remove}
use Rattle.std.proofs.lemmas.Bool.Decides.{nat_tests}
use Rattle.std.proofs.lemmas.List.{length-append, length-replicate, length-map, length-take, length-drop}
use Rattle.std.proofs.lemmas.List.Edits.{length-remove}
use Rattle.std.proofs.lemmas.List.Sorted.{IsPermutation-insert, length_permutation}
use Rattle.hold_shapes.specs.declared.shape.Shape.{Shape}
use Rattle.hold_shapes.specs.declared.shape.Shape.TheVariants.{List as ListOf, Keyed as KeyedOf, Tree as TreeOf}
use Rattle.hold_shapes.specs.declared.origins.Origin.{Origin}
use Rattle.hold_shapes.specs.declared.origins.Origin.TheVariants.{Old, Fresh}
use Rattle.hold_shapes.specs.declared.edit.ShapeEdit.{ShapeEdit}
use Rattle.hold_shapes.specs.declared.edit.ShapeEdit.TheVariants.{Ins, Del, MoveItem, Reorder, PutKey, DropKey, RenameKey, Graft, Prune, Shift, Hang}
use Rattle.hold_shapes.specs.Causes.{PlanCause, Place, Range, Length, Deep}
use Rattle.texts.specs.Keys.{key_place, key_rank}
use Rattle.hold_shapes.specs.Trees.{node, children, child, end_of}
use Rattle.hold_shapes.specs.Shapes.{size_of}
use Rattle.hold_shapes.specs.Plans.{Planned, old_places, list_of, is_count, is_each_new, at_place, put_key, drop_key, rename_to, rename_key, remove_part, insert_part, move_part, graft, prune, prune_child, place_for_child, shift_child, shift, moved_depths, all_at_most, hang_depths, hang_below, hang_at, hang, plan_list, plan_keyed, plan_tree, plan}
use Rattle.law_shapes.specs.Laws.{is_same_kind}
use Rattle.hold_shapes.proofs.OldPlaces.{length-old_places}
use Rattle.law_shapes.proofs.Permuted.{perm-remove_part, perm-put, perm-move_part}
use Rattle.law_shapes.proofs.Lawful.{key-within, past}
use Rattle.std.proofs.lemmas.Bool.{eqb-true}

abbrev pub Fits : Shape → Shape → List Origin → Type 0
Fits s t from = (length from ≡ size_of t) × (is_same_kind s t ≡ true)

abbrev pub FitsOf : Shape → Planned → Type 0
FitsOf s (Err fault) = Unit {0}
FitsOf s (Ok y) = Fits s y.0 y.1

fits-if : (s : Shape) (b : Bool) (x : Planned) (fault : PlanCause) → (b ≡ true → FitsOf s x) → FitsOf s (if b then x else Err fault)
fits-if s true x fault f = f refl
fits-if s false x fault f = tt

fits-else : (s : Shape) (b : Bool) (x : Planned) (fault : PlanCause) → FitsOf s x → FitsOf s (if b then Err fault else x)
fits-else s true x fault f = tt
fits-else s false x fault f = f

fits-at : (s : Shape) (o : Option ℕ) (go : ℕ → Planned) → ((p : ℕ) → FitsOf s (go p)) → FitsOf s (at_place o go)
fits-at s None go f = tt
fits-at s (Some p) go f = f p

inserted : (X : Type 0) (xs : List X) (i : ℕ) (x : X) → length (insert xs i x) ≡ length xs + 1
inserted X xs i x = let e = length_permutation (x ∷ xs) (insert xs i x) (IsPermutation-insert xs i x) in omega arith

same-insert : (X Y : Type 0) (xs : List X) (ys : List Y) (i : ℕ) (x : X) (y : Y) → length xs ≡ length ys → length (insert xs i x) ≡ length (insert ys i y)
same-insert X Y xs ys i x y h = let a = inserted X xs i x in let b = inserted Y ys i y in omega arith

same-remove : (X Y : Type 0) (xs : List X) (ys : List Y) (i : ℕ) → i < length ys → length xs ≡ length ys → length (remove xs i) ≡ length (remove ys i)
same-remove X Y xs ys i lt h = let a = length-remove xs i (omega arith) in let b = length-remove ys i lt in omega arith

length-cut : (X : Type 0) (xs : List X) (a e : ℕ) → length (remove_part a e xs) ≡ min a (length xs) + (length xs - e)
length-cut X xs a e = length-append (take a xs) (drop e xs) ∙ (let p = length-take a xs in let q = length-drop e xs in omega arith)

same-cut : (X Y : Type 0) (xs : List X) (ys : List Y) (a e : ℕ) → length xs ≡ length ys → length (remove_part a e xs) ≡ length (remove_part a e ys)
same-cut X Y xs ys a e h = length-cut X xs a e ∙ ((ap (λ (n : ℕ). min a n + (n - e)) h) ∙ sym (length-cut Y ys a e))

length-move_part : (X : Type 0) (xs : List X) (a e t : ℕ) → a ≤ e → length (move_part a e t xs) ≡ length xs
length-move_part X xs a e t h = length_permutation xs (move_part a e t xs) (perm-move_part X xs a e t h)

same-move_part : (X Y : Type 0) (xs : List X) (ys : List Y) (a e t : ℕ) → a ≤ e → length xs ≡ length ys → length (move_part a e t xs) ≡ length (move_part a e t ys)
same-move_part X Y xs ys a e t h k = length-move_part X xs a e t h ∙ (k ∙ sym (length-move_part Y ys a e t h))

same-below : (i j n : ℕ) → (nat_lt i n && nat_lt j n) ≡ true → i < n
same-below i j n h = grind (arith, nat_tests)

move_part-item : (n i j : ℕ) → i < n → length (insert (remove (old_places n) i) j (Old i)) ≡ n
move_part-item n i j h =
    let l = length-old_places n in
    let r = length-remove (old_places n) i (omega arith) in
    let s = inserted Origin (remove (old_places n) i) j (Old i) in omega arith

of-list : (l : Shape) (n : ℕ) (e : ShapeEdit) → is_same_kind l (list_of 0) ≡ true → ((m : ℕ) → is_same_kind l (list_of m) ≡ true) → FitsOf l (plan_list n e)
of-list l n (Ins c) k s =
    fits-if l (is_count c) (Ok (list_of (n + c), old_places n ++ replicate c Fresh)) Range
    (λ h. (length-append (old_places n) (replicate c Fresh) ∙ (let p = length-old_places n in let q = length-replicate c Fresh in omega arith), s (n + c)))
of-list l n (Del c) k s =
    fits-if l (is_count c && nat_le c n) (Ok (list_of (n - c), old_places (n - c))) Range (λ h. (length-old_places (n - c), s (n - c)))
of-list l n (MoveItem i j) k s =
    fits-if l (nat_lt i n && nat_lt j n) (Ok (list_of n, insert (remove (old_places n) i) j (Old i))) Place (λ h. (move_part-item n i j (same-below i j n h), s n))
of-list l n (Reorder f) k s =
    fits-if l (nat_eq (length f) n) (if is_each_new n [] f then Ok (list_of n, map Old f) else Err Range) Length
    (λ h. fits-if l (is_each_new n [] f) (Ok (list_of n, map Old f)) Range (λ g. (length-map f Old ∙ eqb-true (length f) n h, s n)))
of-list l n (PutKey q) k s = tt
of-list l n (DropKey q) k s = tt
of-list l n (RenameKey q m) k s = tt
of-list l n (Graft q) k s = tt
of-list l n (Prune q) k s = tt
of-list l n (Shift q i j) k s = tt
of-list l n (Hang p q) k s = tt

of-put : (ks : List (List ℕ)) (k : List ℕ) (o : Option ℕ) → FitsOf (KeyedOf ks) (put_key ks k o)
of-put ks k (Some p) = tt
of-put ks k None = (same-insert Origin (List ℕ) (old_places (length ks)) ks (key_rank k ks) Fresh k (length-old_places (length ks)), refl)

of-drop : (ks : List (List ℕ)) (k : List ℕ) (o : Option ℕ) → key_place k ks ≡ o → FitsOf (KeyedOf ks) (drop_key ks o)
of-drop ks k None h = tt
of-drop ks k (Some p) h =
    let lt = key-within 0 p k ks h in (same-remove Origin (List ℕ) (old_places (length ks)) ks p (omega arith) (length-old_places (length ks)), refl)

of-rename-to : (ks : List (List ℕ)) (m : List ℕ) (p : ℕ) (o : Option ℕ) → p < length ks → FitsOf (KeyedOf ks) (rename_to ks m p o)
of-rename-to ks m p (Some q) h = tt
of-rename-to ks m p None h = (
  same-insert Origin (List ℕ) (remove (old_places (length ks)) p) (remove ks p) (key_rank m (remove ks p)) (Old p) m
      (same-remove Origin (List ℕ) (old_places (length ks)) ks p h (length-old_places (length ks))),
  refl,
)

of-same : (b : Bool) (ks : List (List ℕ)) (m : List ℕ) (p : ℕ) → p < length ks
    → FitsOf (KeyedOf ks) (if b then Ok (KeyedOf ks, old_places (length ks)) else rename_to ks m p (key_place m ks))
of-same true ks m p h = (length-old_places (length ks), refl)
of-same false ks m p h = of-rename-to ks m p (key_place m ks) h

of-rename : (ks : List (List ℕ)) (k m : List ℕ) (o : Option ℕ) → key_place k ks ≡ o → FitsOf (KeyedOf ks) (rename_key ks k m o)
of-rename ks k m None h = tt
of-rename ks k m (Some p) h = let lt = key-within 0 p k ks h in of-same (bytes_eq k m) ks m p (omega arith)

of-keyed : (ks : List (List ℕ)) (e : ShapeEdit) → FitsOf (KeyedOf ks) (plan_keyed ks e)
of-keyed ks (PutKey k) = of-put ks k (key_place k ks)
of-keyed ks (DropKey k) = of-drop ks k (key_place k ks) refl
of-keyed ks (RenameKey k m) = of-rename ks k m (key_place k ks) refl
of-keyed ks (Ins c) = tt
of-keyed ks (Del c) = tt
of-keyed ks (MoveItem i j) = tt
of-keyed ks (Reorder f) = tt
of-keyed ks (Graft q) = tt
of-keyed ks (Prune q) = tt
of-keyed ks (Shift q i j) = tt
of-keyed ks (Hang p q) = tt

of-graft : (ds : List ℕ) (p : ℕ) → FitsOf (TreeOf ds) (graft ds p)
of-graft ds p =
    fits-if (TreeOf ds) (nat_lt (get_or ds p 0) 15) (Ok (TreeOf (insert ds (end_of ds p) (get_or ds p 0 + 1)), insert (old_places (length ds)) (end_of ds p) Fresh)) Deep
    (λ h. (same-insert Origin ℕ (old_places (length ds)) ds (end_of ds p) Fresh (get_or ds p 0 + 1) (length-old_places (length ds)), refl))

of-prune-child : (ds : List ℕ) (o : Option ℕ) → FitsOf (TreeOf ds) (prune_child ds o)
of-prune-child ds None = tt
of-prune-child ds (Some c) = (same-cut Origin ℕ (old_places (length ds)) ds c (end_of ds c) (length-old_places (length ds)), refl)

of-prune : (ds : List ℕ) (p : ℕ) → FitsOf (TreeOf ds) (prune ds p)
of-prune ds p =
    fits-else (TreeOf ds) (nat_eq (children ds p) 0) (prune_child ds (child ds p (children ds p - 1))) Range
    (of-prune-child ds (child ds p (children ds p - 1)))

of-shift-child : (ds : List ℕ) (p j : ℕ) (o : Option ℕ) → FitsOf (TreeOf ds) (shift_child ds p j o)
of-shift-child ds p j None = tt
of-shift-child ds p j (Some c) =
    (same-move_part Origin ℕ (old_places (length ds)) ds c (end_of ds c) (place_for_child (remove_part c (end_of ds c) ds) p (child (remove_part c (end_of ds c) ds) p j)) (past ds c) (length-old_places (length ds)), refl)

of-shift : (ds : List ℕ) (i j p : ℕ) → FitsOf (TreeOf ds) (shift ds i j p)
of-shift ds i j p =
    fits-if (TreeOf ds) (nat_lt i (children ds p) && nat_lt j (children ds p)) (shift_child ds p j (child ds p i)) Range
    (λ h. of-shift-child ds p j (child ds p i))

length-moved_depths : (ds part : List ℕ) (a e t : ℕ) → a ≤ e → length part ≡ length (slice_range ds a e)
    → length (move_part a e t (old_places (length ds))) ≡ length (insert_part t part (remove_part a e ds))
length-moved_depths ds part a e t h k =
    let p = length-move_part Origin (old_places (length ds)) a e t h in
    let q = length-old_places (length ds) in
    let r = length_permutation (remove_part a e ds ++ part) (insert_part t part (remove_part a e ds)) (perm-put ℕ t part (remove_part a e ds)) in
    let s = length_permutation ds (remove_part a e ds ++ slice_range ds a e) (perm-remove_part ℕ ds a e h) in
    let u = length-append (remove_part a e ds) part in
    let v = length-append (remove_part a e ds) (slice_range ds a e) in
    omega arith

of-deep : (b : Bool) (ds part : List ℕ) (a e r : ℕ) → a ≤ e → length part ≡ length (slice_range ds a e)
    → FitsOf (TreeOf ds) (hang_depths ds a e (remove_part a e ds) r (if b then Ok part else Err Deep))
of-deep true ds part a e r h k = (length-moved_depths ds part a e (end_of (remove_part a e ds) r) h k, refl)
of-deep false ds part a e r h k = tt

of-hang-below : (ds : List ℕ) (a e r : ℕ) → a ≤ e → FitsOf (TreeOf ds) (hang_below ds a e (remove_part a e ds) r)
of-hang-below ds a e r h =
    let d = get_or ds a 0 in
    let f = get_or (remove_part a e ds) r 0 in
    of-deep (all_at_most 15 (moved_depths d f (slice_range ds a e))) ds (moved_depths d f (slice_range ds a e)) a e r h (length-map (slice_range ds a e) (λ (x : ℕ). x - d + (f + 1)))

of-hang : (ds q : List ℕ) (a : ℕ) → FitsOf (TreeOf ds) (hang ds q a)
of-hang ds q a =
    fits-else (TreeOf ds) (nat_eq a 0) (hang_at ds a (end_of ds a) (remove_part a (end_of ds a) ds) q) Place
    (fits-at (TreeOf ds) (node (remove_part a (end_of ds a) ds) q) (hang_below ds a (end_of ds a) (remove_part a (end_of ds a) ds))
    (λ r. of-hang-below ds a (end_of ds a) r (past ds a)))

of-tree : (ds : List ℕ) (e : ShapeEdit) → FitsOf (TreeOf ds) (plan_tree ds e)
of-tree ds (Graft q) = fits-at (TreeOf ds) (node ds q) (graft ds) (λ p. of-graft ds p)
of-tree ds (Prune q) = fits-at (TreeOf ds) (node ds q) (prune ds) (λ p. of-prune ds p)
of-tree ds (Shift q i j) = fits-at (TreeOf ds) (node ds q) (shift ds i j) (λ p. of-shift ds i j p)
of-tree ds (Hang p q) = fits-at (TreeOf ds) (node ds p) (hang ds q) (λ a. of-hang ds q a)
of-tree ds (Ins c) = tt
of-tree ds (Del c) = tt
of-tree ds (MoveItem i j) = tt
of-tree ds (Reorder f) = tt
of-tree ds (PutKey k) = tt
of-tree ds (DropKey k) = tt
of-tree ds (RenameKey k m) = tt

of-shape : (s : Shape) (e : ShapeEdit) → FitsOf s (plan s e)
of-shape (ListOf l) e = of-list (ListOf l) l.count e refl (λ m. refl)
of-shape (KeyedOf ks) e = of-keyed ks e
of-shape (TreeOf ds) e = of-tree ds e

fits : (s : Shape) (e : ShapeEdit) (t : Shape) (from : List Origin) → plan s e ≡ Ok (t, from) → Fits s t from
fits s e t from h =
    let P : Planned → Type 0 = λ y. FitsOf s y in
    subst P h (of-shape s e)

pub as_many : (s : Shape) (e : ShapeEdit) (t : Shape) (from : List Origin) → plan s e ≡ Ok (t, from) → length from ≡ size_of t
as_many s e t from h = (fits s e t from h).0

pub same_kind : (s : Shape) (e : ShapeEdit) (t : Shape) (from : List Origin) → plan s e ≡ Ok (t, from) → is_same_kind s t ≡ true
same_kind s e t from h = (fits s e t from h).1
