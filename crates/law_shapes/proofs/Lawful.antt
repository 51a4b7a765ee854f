-- Every plan is lawful.
use Rattle.std.proofs.Common.{◌≡◌, ℕ, ◌+◌, ◌-◌, ◌<◌, ◌≤◌, suc, Bool, true, false, ◌&&◌, List, [], ◌∷◌, ◌++◌, length, map, take, drop, get_or, replicate, Option, Some, None, Result, Ok, Err, refl, sym, ap, ◌∙◌, subst, arith}
use Rattle.std.specs.Prelude.{if◌then◌else◌, nat_le, nat_lt, nat_eq, bytes_eq, slice_range}
use Rattle.std.specs.List.{insert, remove}
use Rattle.std.specs.List.Sorted.{IsPermutation}
use Rattle.std.proofs.lemmas.Bool.Decides.{nat_tests}
use Rattle.std.proofs.lemmas.List.{take-append-drop}
use Rattle.std.proofs.lemmas.List.FromFn.{take-map-range_with_len, get_or-map-range_with_len}
use Rattle.std.proofs.lemmas.List.Sorted.{IsPermutation-refl, IsPermutation-trans, IsPermutation-insert, IsPermutation-remove, IsPermutation-to_front, IsPermutation-append_comm}
use Rattle.hold_shapes.specs.declared.shape.Shape.{Shape}
use Rattle.hold_shapes.specs.declared.shape.Shape.TheVariants.{List as ListOf, Keyed as KeyedOf, Tree as TreeOf}
use Rattle.hold_shapes.specs.declared.origins.Origin.{Origin}
use Rattle.hold_shapes.specs.declared.origins.Origin.TheVariants.{Old, Fresh}
use Rattle.hold_shapes.specs.declared.edit.ShapeEdit.{ShapeEdit}
use Rattle.hold_shapes.specs.declared.edit.ShapeEdit.TheVariants.{Ins, Del, MoveItem, Reorder, PutKey, DropKey, RenameKey, Graft, Prune, Shift, Hang}
use Rattle.hold_shapes.specs.Causes.{PlanCause, Place, Range, Length, Deep}
use Rattle.texts.specs.Keys.{key_place, key_from, key_rank}
use Rattle.hold_shapes.specs.Trees.{node, children, child, end_of}
use Rattle.hold_shapes.specs.Shapes.{size_of}
use Rattle.hold_shapes.specs.Plans.{Planned, old_places, list_of, is_count, is_each_new, at_place, put_key, drop_key, rename_to, rename_key, remove_part, graft, prune, prune_child, place_for_child, shift_child, shift, allowed_depths, hang_depths, hang_below, hang_at, hang, plan_list, plan_keyed, plan_tree, plan}
use Rattle.law_shapes.specs.Laws.{Inserts, Deletes, Rearranges, IsArranged}
use Rattle.hold_shapes.proofs.OldPlaces.{length-old_places}
use Rattle.law_shapes.proofs.Permuted.{perm-remove_part, perm-move_part, perm-replaced, perm-order}
use Rattle.std.proofs.lemmas.Bool.{eqb-true}

-- a property of the origins of a plan, where there is one
abbrev pub Keeps : (List Origin → Type 0) → Planned → Type 0
Keeps P (Err fault) = Unit {0}
Keeps P (Ok y) = P y.1

pub keeps-if : (P : List Origin → Type 0) (b : Bool) (x : Planned) (fault : PlanCause) → (b ≡ true → Keeps P x) → Keeps P (if b then x else Err fault)
keeps-if P true x fault f = f refl
keeps-if P false x fault f = tt

pub keeps-else : (P : List Origin → Type 0) (b : Bool) (x : Planned) (fault : PlanCause) → Keeps P x → Keeps P (if b then Err fault else x)
keeps-else P true x fault f = tt
keeps-else P false x fault f = f

pub keeps-at : (P : List Origin → Type 0) (o : Option ℕ) (go : ℕ → Planned) → ((p : ℕ) → o ≡ Some p → Keeps P (go p)) → Keeps P (at_place o go)
keeps-at P None go f = tt
keeps-at P (Some p) go f = f p refl

inserted : (n i : ℕ) → Inserts n (insert (old_places n) i Fresh)
inserted n i =
    (1, IsPermutation-trans (old_places n ++ Fresh ∷ []) (Fresh ∷ old_places n) (insert (old_places n) i Fresh) (IsPermutation-to_front (old_places n) Fresh) (IsPermutation-insert (old_places n) i Fresh))

old-at : (n i : ℕ) → i < n → Old i ≡ get_or (old_places n) i (Old i)
old-at n i h = sym (get_or-map-range_with_len Old 0 n i i (Old i) h (omega arith))

removed : (n i : ℕ) → i < n → Deletes n (remove (old_places n) i)
removed n i h = (
  Old i ∷ [],
  IsPermutation-trans (old_places n) (Old i ∷ remove (old_places n) i) (remove (old_places n) i ++ Old i ∷ [])
      (IsPermutation-remove (old_places n) i (Old i) (rw (length-old_places n) h) (old-at n i h))
      (IsPermutation-append_comm (Old i ∷ []) (remove (old_places n) i)),
)

replaced : (n i j : ℕ) → i < n → Rearranges n (insert (remove (old_places n) i) j (Old i))
replaced n i j h = perm-replaced Origin (old_places n) i j (Old i) (rw (length-old_places n) h) (old-at n i h)

cut : (n c : ℕ) → Deletes n (old_places (n - c))
cut n c =
    let e : take (n - c) (old_places n) ≡ old_places (n - c) = take-map-range_with_len Old 0 n (n - c) (omega arith) in
    let whole : old_places (n - c) ++ drop (n - c) (old_places n) ≡ old_places n = ap (λ (os : List Origin). os ++ drop (n - c) (old_places n)) (sym e) ∙ take-append-drop (n - c) (old_places n) in
    let P : List Origin → Type 0 = λ os. IsPermutation (old_places n) os in
    (drop (n - c) (old_places n), subst P (sym whole) (IsPermutation-refl (old_places n)))

both-below : (i j n : ℕ) → (nat_lt i n && nat_lt j n) ≡ true → i < n
both-below i j n h = grind (arith, nat_tests)

of-list : (n : ℕ) (e : ShapeEdit) → Keeps (IsArranged e n) (plan_list n e)
of-list n (Ins c) = keeps-if (Inserts n) (is_count c) (Ok (list_of (n + c), old_places n ++ replicate c Fresh)) Range (λ h. (c, IsPermutation-refl (old_places n ++ replicate c Fresh)))
of-list n (Del c) = keeps-if (Deletes n) (is_count c && nat_le c n) (Ok (list_of (n - c), old_places (n - c))) Range (λ h. cut n c)
of-list n (MoveItem i j) =
    keeps-if (Rearranges n) (nat_lt i n && nat_lt j n) (Ok (list_of n, insert (remove (old_places n) i) j (Old i))) Place (λ h. replaced n i j (both-below i j n h))
of-list n (Reorder f) =
    keeps-if (Rearranges n) (nat_eq (length f) n) (if is_each_new n [] f then Ok (list_of n, map Old f) else Err Range) Length
    (λ h. keeps-if (Rearranges n) (is_each_new n [] f) (Ok (list_of n, map Old f)) Range (λ k. perm-order n f (eqb-true (length f) n h) k))
of-list n (PutKey k) = tt
of-list n (DropKey k) = tt
of-list n (RenameKey k m) = tt
of-list n (Graft q) = tt
of-list n (Prune q) = tt
of-list n (Shift q i j) = tt
of-list n (Hang p q) = tt

-- ---- keyed maps

within-step : (b : Bool) (at p n : ℕ) (o : Option ℕ) → (o ≡ Some p → p < at + 1 + n) → (if b then Some at else o) ≡ Some p → p < at + suc n
within-step true at p n o f h = let e : at ≡ p = cc in omega arith
within-step false at p n o f h = let k = f h in omega arith

pub key-within : (at p : ℕ) (k : List ℕ) (ks : List (List ℕ)) → key_from at k ks ≡ Some p → p < at + length ks
key-within at p k [] h = cc
key-within at p k (m ∷ ms) h = within-step (bytes_eq k m) at p (length ms) (key_from (at + 1) k ms) (λ e. key-within (at + 1) p k ms e) h

of-put : (ks : List (List ℕ)) (k : List ℕ) (o : Option ℕ) → Keeps (Inserts (length ks)) (put_key ks k o)
of-put ks k (Some p) = tt
of-put ks k None = inserted (length ks) (key_rank k ks)

of-drop : (ks : List (List ℕ)) (k : List ℕ) (o : Option ℕ) → key_place k ks ≡ o → Keeps (Deletes (length ks)) (drop_key ks o)
of-drop ks k None h = tt
of-drop ks k (Some p) h = let lt = key-within 0 p k ks h in removed (length ks) p (omega arith)

of-rename-to : (ks : List (List ℕ)) (m : List ℕ) (p : ℕ) (o : Option ℕ) → p < length ks → Keeps (Rearranges (length ks)) (rename_to ks m p o)
of-rename-to ks m p (Some q) h = tt
of-rename-to ks m p None h = replaced (length ks) p (key_rank m (remove ks p)) h

of-same : (b : Bool) (ks : List (List ℕ)) (m : List ℕ) (p : ℕ) → p < length ks
    → Keeps (Rearranges (length ks)) (if b then Ok (KeyedOf ks, old_places (length ks)) else rename_to ks m p (key_place m ks))
of-same true ks m p h = IsPermutation-refl (old_places (length ks))
of-same false ks m p h = of-rename-to ks m p (key_place m ks) h

of-rename : (ks : List (List ℕ)) (k m : List ℕ) (o : Option ℕ) → key_place k ks ≡ o → Keeps (Rearranges (length ks)) (rename_key ks k m o)
of-rename ks k m None h = tt
of-rename ks k m (Some p) h = let lt = key-within 0 p k ks h in of-same (bytes_eq k m) ks m p (omega arith)

of-keyed : (ks : List (List ℕ)) (e : ShapeEdit) → Keeps (IsArranged e (length ks)) (plan_keyed ks e)
of-keyed ks (PutKey k) = of-put ks k (key_place k ks)
of-keyed ks (DropKey k) = of-drop ks k (key_place k ks) refl
of-keyed ks (RenameKey k m) = of-rename ks k m (key_place k ks) refl
of-keyed ks (Ins c) = tt
of-keyed ks (Del c) = tt
of-keyed ks (MoveItem i j) = tt
of-keyed ks (Reorder f) = tt
of-keyed ks (Graft q) = tt
of-keyed ks (Prune q) = tt
of-keyed ks (Shift q i j) = tt
of-keyed ks (Hang p q) = tt

-- ---- trees

pub past : (ds : List ℕ) (p : ℕ) → p ≤ end_of ds p
past ds p = omega arith

of-graft : (ds : List ℕ) (p : ℕ) → Keeps (Inserts (length ds)) (graft ds p)
of-graft ds p =
    keeps-if (Inserts (length ds)) (nat_lt (get_or ds p 0) 15) (Ok (TreeOf (insert ds (end_of ds p) (get_or ds p 0 + 1)), insert (old_places (length ds)) (end_of ds p) Fresh)) Deep
    (λ h. inserted (length ds) (end_of ds p))

of-prune-child : (ds : List ℕ) (o : Option ℕ) → Keeps (Deletes (length ds)) (prune_child ds o)
of-prune-child ds None = tt
of-prune-child ds (Some c) =
    (slice_range (old_places (length ds)) c (end_of ds c), perm-remove_part Origin (old_places (length ds)) c (end_of ds c) (past ds c))

of-prune : (ds : List ℕ) (p : ℕ) → Keeps (Deletes (length ds)) (prune ds p)
of-prune ds p =
    keeps-else (Deletes (length ds)) (nat_eq (children ds p) 0) (prune_child ds (child ds p (children ds p - 1))) Range
    (of-prune-child ds (child ds p (children ds p - 1)))

of-shift-child : (ds : List ℕ) (p j : ℕ) (o : Option ℕ) → Keeps (Rearranges (length ds)) (shift_child ds p j o)
of-shift-child ds p j None = tt
of-shift-child ds p j (Some c) =
    perm-move_part Origin (old_places (length ds)) c (end_of ds c) (place_for_child (remove_part c (end_of ds c) ds) p (child (remove_part c (end_of ds c) ds) p j)) (past ds c)

of-shift : (ds : List ℕ) (i j p : ℕ) → Keeps (Rearranges (length ds)) (shift ds i j p)
of-shift ds i j p =
    keeps-if (Rearranges (length ds)) (nat_lt i (children ds p) && nat_lt j (children ds p)) (shift_child ds p j (child ds p i)) Range
    (λ h. of-shift-child ds p j (child ds p i))

of-hang-part : (ds rest : List ℕ) (a e r : ℕ) (o : Result (List ℕ) PlanCause) → a ≤ e → Keeps (Rearranges (length ds)) (hang_depths ds a e rest r o)
of-hang-part ds rest a e r (Err fault) h = tt
of-hang-part ds rest a e r (Ok part) h = perm-move_part Origin (old_places (length ds)) a e (end_of rest r) h

of-hang : (ds q : List ℕ) (a : ℕ) → Keeps (Rearranges (length ds)) (hang ds q a)
of-hang ds q a =
    keeps-else (Rearranges (length ds)) (nat_eq a 0) (hang_at ds a (end_of ds a) (remove_part a (end_of ds a) ds) q) Place
    (keeps-at (Rearranges (length ds)) (node (remove_part a (end_of ds a) ds) q) (hang_below ds a (end_of ds a) (remove_part a (end_of ds a) ds))
    (λ r h. of-hang-part ds (remove_part a (end_of ds a) ds) a (end_of ds a) r
    (allowed_depths (get_or ds a 0) (get_or (remove_part a (end_of ds a) ds) r 0) (slice_range ds a (end_of ds a))) (past ds a)))

of-tree : (ds : List ℕ) (e : ShapeEdit) → Keeps (IsArranged e (length ds)) (plan_tree ds e)
of-tree ds (Graft q) = keeps-at (Inserts (length ds)) (node ds q) (graft ds) (λ p h. of-graft ds p)
of-tree ds (Prune q) = keeps-at (Deletes (length ds)) (node ds q) (prune ds) (λ p h. of-prune ds p)
of-tree ds (Shift q i j) = keeps-at (Rearranges (length ds)) (node ds q) (shift ds i j) (λ p h. of-shift ds i j p)
of-tree ds (Hang p q) = keeps-at (Rearranges (length ds)) (node ds p) (hang ds q) (λ a h. of-hang ds q a)
of-tree ds (Ins c) = tt
of-tree ds (Del c) = tt
of-tree ds (MoveItem i j) = tt
of-tree ds (Reorder f) = tt
of-tree ds (PutKey k) = tt
of-tree ds (DropKey k) = tt
of-tree ds (RenameKey k m) = tt

pub of-shape : (s : Shape) (e : ShapeEdit) → Keeps (IsArranged e (size_of s)) (plan s e)
of-shape (ListOf l) e = of-list l.count e
of-shape (KeyedOf ks) e = of-keyed ks e
of-shape (TreeOf ds) e = of-tree ds e

pub lawful : (s : Shape) (e : ShapeEdit) (t : Shape) (from : List Origin) → plan s e ≡ Ok (t, from) → IsArranged e (size_of s) from
lawful s e t from h =
    let P : Planned → Type 0 = λ y. Keeps (IsArranged e (size_of s)) y in
    subst P h (of-shape s e)
