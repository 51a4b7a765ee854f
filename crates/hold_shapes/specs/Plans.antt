-- The plan of a shape edit: the new shape and where each of its places comes from, or the cause for which there is
-- none. docs/EDITS.md states the rules in words. Read it from the end: `plan`, then `plan_tree`, `plan_keyed` and
-- `plan_list`.
use Rattle.std.specs.Prelude.{ℕ, ◌+◌, ◌-◌, Bool, true, false, not, ◌&&◌, ◌||◌, if◌then◌else◌, List, [], ◌∷◌, ◌++◌}
use Rattle.std.specs.Prelude.{length, map, take, drop, replicate, slice_index, slice_range, Option, Some, None, Result}
use Rattle.std.specs.Prelude.{Ok, Err, nat_eq, nat_lt, nat_le, bytes_eq}
use Rattle.std.specs.List.{insert, remove, range_with_len}
use Rattle.hold_shapes.specs.declared.shape.Shape.{Shape}
use Rattle.hold_shapes.specs.declared.shape.Shape.TheVariants.{List as ListOf, Keyed as KeyedOf, Tree as TreeOf}
use Rattle.hold_shapes.specs.declared.origins.Origin.{Origin}
use Rattle.hold_shapes.specs.declared.origins.Origin.TheVariants.{Old, Fresh}
use Rattle.hold_shapes.specs.declared.edit.ShapeEdit.{ShapeEdit}
use Rattle.hold_shapes.specs.declared.edit.ShapeEdit.TheVariants.{Ins, Del, MoveItem, Reorder, PutKey, DropKey}
use Rattle.hold_shapes.specs.declared.edit.ShapeEdit.TheVariants.{RenameKey, Graft, Prune, Shift, Hang}
use Rattle.hold_shapes.specs.Causes.{PlanCause, Kind, Place, Range, Present, Length, Deep}
use Rattle.texts.specs.Keys.{key_place, key_rank}
use Rattle.hold_shapes.specs.Trees.{node, children, child, end_of}
use Rattle.hold_shapes.specs.declared.lists.TheConstants.{MOST_ITEMS}

-- a new shape with an origin for each of its places, or the cause for which there is none
abbrev pub Planned : Type 0
Planned = Result (Shape × List Origin) PlanCause

-- the first n old places in order
abbrev pub old_places : ℕ → List Origin
old_places n = map Old (range_with_len 0 n)

-- the shape of a list of n items
abbrev pub list_of : ℕ → Shape
list_of n = ListOf (record { count = n })

-- a number of items that one edit may add or take away
abbrev pub is_count : ℕ → Bool
is_count c = nat_le 1 c && nat_le c MOST_ITEMS

-- whether a number is among the numbers
abbrev pub has_number : ℕ → List ℕ → Bool
has_number k [] = false
has_number k (m ∷ ms) = nat_eq k m || has_number k ms

-- each number is below n and differs from those before it
abbrev pub is_each_new : ℕ → List ℕ → List ℕ → Bool
is_each_new n before [] = true
is_each_new n before (k ∷ ks) = nat_lt k n && (not (has_number k before) && is_each_new n (k ∷ before) ks)

-- ---- edits of a list of n items

abbrev pub plan_list : ℕ → ShapeEdit → Planned
plan_list n (Ins c) = if is_count c then Ok (list_of (n + c), old_places n ++ replicate c Fresh) else Err Range
plan_list n (Del c) = if is_count c && nat_le c n then Ok (list_of (n - c), old_places (n - c)) else Err Range
plan_list n (MoveItem i j) =
    if nat_lt i n && nat_lt j n then Ok (list_of n, insert (remove (old_places n) i) j (Old i)) else Err Place
plan_list n (Reorder f) =
    if nat_eq (length f) n
    then (if is_each_new n [] f then Ok (list_of n, map Old f) else Err Range)
    else Err Length
plan_list n e = Err Kind

-- the cause Place if there is no such place
abbrev pub at_place : Option ℕ → (ℕ → Planned) → Planned
at_place None go = Err Place
at_place (Some p) go = go p

-- ---- edits of the keys ks

-- the keys and their origins, with one more key among them in byte order
abbrev pub add_key : List (List ℕ) → List Origin → List ℕ → Origin → Planned
add_key ks from k o = Ok (KeyedOf (insert ks (key_rank k ks) k), insert from (key_rank k ks) o)

-- a new key k, if it is not a key already
abbrev pub put_key : List (List ℕ) → List ℕ → Option ℕ → Planned
put_key ks k (Some p) = Err Present
put_key ks k None = add_key ks (old_places (length ks)) k Fresh

-- the keys without the one at p
abbrev pub drop_key : List (List ℕ) → Option ℕ → Planned
drop_key ks None = Err Place
drop_key ks (Some p) = Ok (KeyedOf (remove ks p), remove (old_places (length ks)) p)

-- the key m in place of the one at p, if m is not a key already
abbrev pub rename_to : List (List ℕ) → List ℕ → ℕ → Option ℕ → Planned
rename_to ks m p (Some q) = Err Present
rename_to ks m p None = add_key (remove ks p) (remove (old_places (length ks)) p) m (Old p)

-- the key m in place of k; if both are the same, nothing changes
abbrev pub rename_key : List (List ℕ) → List ℕ → List ℕ → Option ℕ → Planned
rename_key ks k m None = Err Place
rename_key ks k m (Some p) =
    if bytes_eq k m then Ok (KeyedOf ks, old_places (length ks)) else rename_to ks m p (key_place m ks)

abbrev pub plan_keyed : List (List ℕ) → ShapeEdit → Planned
plan_keyed ks (PutKey k) = put_key ks k (key_place k ks)
plan_keyed ks (DropKey k) = drop_key ks (key_place k ks)
plan_keyed ks (RenameKey k m) = rename_key ks k m (key_place k ks)
plan_keyed ks e = Err Kind

-- ---- edits of the tree with the depths ds, in which a subtree is the block from a node to its end

-- what is left of a list without the part from a to e
abbrev pub remove_part : {A : Type 0} → ℕ → ℕ → List A → List A
remove_part a e xs = take a xs ++ drop e xs

-- a list with a part inserted at place t
abbrev pub insert_part : {A : Type 0} → ℕ → List A → List A → List A
insert_part t part xs = take t xs ++ (part ++ drop t xs)

-- the part from a to e removed from a list, and inserted at place t of the rest
abbrev pub move_part : {A : Type 0} → ℕ → ℕ → ℕ → List A → List A
move_part a e t xs = insert_part t (slice_range xs a e) (remove_part a e xs)

-- a fresh node as the last child of the node at p
abbrev pub graft : List ℕ → ℕ → Planned
graft ds p =
    if nat_lt (slice_index ds p) 15
    then Ok (
      TreeOf (insert ds (end_of ds p) (slice_index ds p + 1)),
      insert (old_places (length ds)) (end_of ds p) Fresh,
    )
    else Err Deep

-- the tree without the subtree of the child at c
abbrev pub prune_child : List ℕ → Option ℕ → Planned
prune_child ds None = Err Range
prune_child ds (Some c) =
    Ok (TreeOf (remove_part c (end_of ds c) ds), remove_part c (end_of ds c) (old_places (length ds)))

-- the tree without the last child of the node at p
abbrev pub prune : List ℕ → ℕ → Planned
prune ds p = if nat_eq (children ds p) 0 then Err Range else prune_child ds (child ds p (children ds p - 1))

-- the place of child number j of the node at p; without such a child, the place that a new last one has
abbrev pub place_for_child : List ℕ → ℕ → Option ℕ → ℕ
place_for_child ds p None = end_of ds p
place_for_child ds p (Some c) = c

-- the subtree from a to e is moved to place t of the rest
abbrev pub move_subtree : List ℕ → ℕ → ℕ → ℕ → Planned
move_subtree ds a e t = Ok (TreeOf (move_part a e t ds), move_part a e t (old_places (length ds)))

-- that subtree as child j of the node at p, where rest is the tree without the subtree from c to e
abbrev pub shift_to : List ℕ → ℕ → ℕ → List ℕ → ℕ → ℕ → Planned
shift_to ds c e rest p j = move_subtree ds c e (place_for_child rest p (child rest p j))

-- the child at c is taken out with its subtree
abbrev pub shift_child : List ℕ → ℕ → ℕ → Option ℕ → Planned
shift_child ds p j None = Err Range
shift_child ds p j (Some c) = shift_to ds c (end_of ds c) (remove_part c (end_of ds c) ds) p j

-- child i of the node at p becomes its child j
abbrev pub shift : List ℕ → ℕ → ℕ → ℕ → Planned
shift ds i j p =
    if nat_lt i (children ds p) && nat_lt j (children ds p) then shift_child ds p j (child ds p i) else Err Range

-- the depths of a subtree whose root has depth a, after it is moved below a node of depth r
abbrev pub moved_depths : ℕ → ℕ → List ℕ → List ℕ
moved_depths a r part = map (λ d. d - a + (r + 1)) part

-- each number is at most n
abbrev pub all_at_most : ℕ → List ℕ → Bool
all_at_most n [] = true
all_at_most n (d ∷ ds) = nat_le d n && all_at_most n ds

-- those depths, if none is above 15
abbrev pub allowed_depths : ℕ → ℕ → List ℕ → Result (List ℕ) PlanCause
allowed_depths a r part = if all_at_most 15 (moved_depths a r part) then Ok (moved_depths a r part) else Err Deep

-- rest is the tree without the subtree from a to e; the last argument is the depths that this subtree has below the
-- node r of the rest
abbrev pub hang_depths : List ℕ → ℕ → ℕ → List ℕ → ℕ → Result (List ℕ) PlanCause → Planned
hang_depths ds a e rest r (Err cause) = Err cause
hang_depths ds a e rest r (Ok part) =
    Ok (TreeOf (insert_part (end_of rest r) part rest), move_part a e (end_of rest r) (old_places (length ds)))

-- the subtree becomes the last child of the node r of the rest
abbrev pub hang_below : List ℕ → ℕ → ℕ → List ℕ → ℕ → Planned
hang_below ds a e rest r =
    hang_depths ds a e rest r (allowed_depths (slice_index ds a) (slice_index rest r) (slice_range ds a e))

-- the path q is read in the rest
abbrev pub hang_at : List ℕ → ℕ → ℕ → List ℕ → List ℕ → Planned
hang_at ds a e rest q = at_place (node rest q) (hang_below ds a e rest)

-- the subtree of the node at a becomes the last child of the node q; the root, at 0, cannot be moved
abbrev pub hang : List ℕ → List ℕ → ℕ → Planned
hang ds q a =
    if nat_eq a 0 then Err Place else hang_at ds a (end_of ds a) (remove_part a (end_of ds a) ds) q

abbrev pub plan_tree : List ℕ → ShapeEdit → Planned
plan_tree ds (Graft q) = at_place (node ds q) (graft ds)
plan_tree ds (Prune q) = at_place (node ds q) (prune ds)
plan_tree ds (Shift q i j) = at_place (node ds q) (shift ds i j)
plan_tree ds (Hang p q) = at_place (node ds p) (hang ds q)
plan_tree ds e = Err Kind

-- ---- edits of any shape

abbrev pub plan : Shape → ShapeEdit → Planned
plan (ListOf s) e = plan_list s.count e
plan (KeyedOf ks) e = plan_keyed ks e
plan (TreeOf ds) e = plan_tree ds e
