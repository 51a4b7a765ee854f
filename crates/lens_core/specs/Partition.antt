-- Translation through a partition: `part_left` and `part_right`, at the end of the two parts below. A list of
-- alternatives stands on the left, a record of a list for each tag on the right, and the complement is the list of the
-- tags' numbers. All numbers of a line are those of the tags before it, unless it says otherwise.
use Rattle.std.specs.Prelude.{ℕ, zero, suc, ◌+◌, ◌-◌, Bool, true, false, ◌&&◌, nat_eq, nat_lt, nat_le, if◌then◌else◌}
use Rattle.std.specs.Prelude.{List, [], ◌∷◌, ◌++◌, length, map, replicate, take, drop, slice_index, slice_set, Option}
use Rattle.std.specs.Prelude.{Some, None, option_and_then}
use Rattle.std.specs.List.{range_with_len, remove}
use Rattle.hold_shapes.specs.declared.edit.Place.TheVariants.{Index}
use Rattle.hold_shapes.specs.declared.edit.ShapeEdit.TheVariants.{Ins, Del, MoveItem, Reorder}
use Rattle.hold_shapes.specs.Plans.{is_count, is_each_new}
use Rattle.doc_values.specs.Types.{FieldTrees, no_fields, more_fields}
use Rattle.edit_module.specs.Words.{PrimitiveTree, at, stay, switch, modify, shape, WordTree, no_primitives, joined}
use Rattle.lens_core.specs.Emitted.{at_word, stay_word, mod_word, switch_word, shape_word, one_by_one}
use Rattle.lens_core.specs.Tags.{tag_number, tag_name}
use Rattle.tag_seq.specs.Tags.{count, rank, place, moved}

-- a word and the tags after it
abbrev pub Parted : Type 0
Parted = WordTree × List ℕ

-- the place of an occurrence that is there
abbrev pub place_in : List ℕ → ℕ → ℕ → ℕ
place_in ts t q = elim (place t q ts) [ None ↦ 0 | Some p ↦ p ]

-- move the item at i to j, where these differ
abbrev pub mv : ℕ → ℕ → WordTree
mv i j = if nat_eq i j then no_primitives else shape_word (MoveItem i j)

-- delete the last so many, where there are any
abbrev pub del : ℕ → WordTree
del k = if nat_eq k 0 then no_primitives else shape_word (Del k)

-- reorder, where the order changes anything
abbrev pub is_identity : ℕ → List ℕ → Bool
is_identity k [] = true
is_identity k (j ∷ g) = nat_eq k j && is_identity (k + 1) g

abbrev pub reorder : List ℕ → WordTree
reorder g = if is_identity 0 g then no_primitives else shape_word (Reorder g)

-- an At for each tag, in written order, the number of the first one being k
abbrev pub at_each_tag : FieldTrees → ℕ → (ℕ → WordTree) → WordTree
at_each_tag no_fields k word = no_primitives
at_each_tag (more_fields n t fs) k word = joined (at_word n (word k)) (at_each_tag fs (k + 1) word)

-- the value where a test holds
abbrev pub where_holds : {A : Type 0} → Bool → A → Option A
where_holds true x = Some x
where_holds false x = None

-- ---- from the left

-- Stay t u at the item at p, t its tag: Mod of its place in the list of t.
abbrev pub stay_item : FieldTrees → ℕ → List ℕ → List ℕ → WordTree → ℕ → Option Parted
stay_item fs p ts n u t =
    where_holds (nat_eq t (slice_index ts p)) (at_word n (mod_word (Index (rank t p ts)) u), ts)

-- Switch a b u at the item at p, a its tag and b a tag: the content is deleted from the list of a, and one is inserted
-- into that of b.
abbrev pub switch_item : ℕ → List ℕ → List ℕ → List ℕ → WordTree → ℕ → ℕ → Option Parted
switch_item p ts a_name b_name u a b =
    let r = rank a p ts in
    let k = count a ts in
    let s = rank b p ts in
    let m = (if nat_eq a b then count b ts - 1 else count b ts) in
    where_holds (nat_eq a (slice_index ts p)) (
      joined (at_word a_name (joined (mv r (k - 1)) (shape_word (Del 1))))
          (at_word b_name (joined (shape_word (Ins 1)) (joined (mv m s) (mod_word (Index s) u)))),
      slice_set ts p b,
    )

-- one primitive of the item at p
abbrev pub part_item : FieldTrees → ℕ → List ℕ → PrimitiveTree → Option Parted
part_item fs p ts (stay n u) = option_and_then (stay_item fs p ts n u) (tag_number fs n)
part_item fs p ts (switch a b u) =
    option_and_then (λ i. option_and_then (switch_item p ts a b u i) (tag_number fs b)) (tag_number fs a)
part_item fs p ts _ = None

-- Insertions are of the first tag, at the end.
abbrev pub insert_items : FieldTrees → List ℕ → ℕ → Parted
insert_items fs ts c = (at_word (tag_name fs 0) (shape_word (Ins c)), ts ++ replicate c 0)

-- Del c deletes, of each tag, as many as it has among the last c.
abbrev pub delete_items : FieldTrees → List ℕ → ℕ → Parted
delete_items fs ts c =
    let kept = length ts - c in
    (at_each_tag fs 0 (λ t. del (count t (drop kept ts))), take kept ts)

-- MoveItem i j moves in the list of the tag t at i; s is counted in the new list.
abbrev pub move_item : FieldTrees → List ℕ → ℕ → ℕ → Parted
move_item fs ts i j =
    let t = slice_index ts i in
    let next = moved i j ts in
    let s = rank t j next in
    (at_word (tag_name fs t) (mv (rank t i ts) s), next)

-- the ranks of the items that f takes one after another, of those that have the tag t
abbrev pub ranks_of : ℕ → List ℕ → List ℕ → List ℕ
ranks_of t ts [] = []
ranks_of t ts (k ∷ f) = if nat_eq t (slice_index ts k) then rank t k ts ∷ ranks_of t ts f else ranks_of t ts f

-- Reorder f reorders the list of each tag.
abbrev pub reorder_items : FieldTrees → List ℕ → List ℕ → Parted
reorder_items fs ts f = (at_each_tag fs 0 (λ t. reorder (ranks_of t ts f)), map (slice_index ts) f)

-- one primitive of the list
abbrev pub part_left : FieldTrees → List ℕ → PrimitiveTree → Option Parted
part_left fs ts (modify (Index p) w) =
    if nat_lt p (length ts) then one_by_one (part_item fs p) ts w else None
part_left fs ts (shape (Ins c)) = where_holds (is_count c) (insert_items fs ts c)
part_left fs ts (shape (Del c)) = where_holds (is_count c && nat_le c (length ts)) (delete_items fs ts c)
part_left fs ts (shape (MoveItem i j)) =
    where_holds (nat_lt i (length ts) && nat_lt j (length ts)) (move_item fs ts i j)
part_left fs ts (shape (Reorder f)) =
    where_holds (nat_eq (length f) (length ts) && is_each_new (length ts) [] f) (reorder_items fs ts f)
part_left fs ts _ = None

-- ---- from the right, in the list of the tag t with the name n

-- Mod q u is a Stay at the place of occurrence q.
abbrev pub mod_occurrence : List ℕ → ℕ → List ℕ → ℕ → WordTree → Parted
mod_occurrence n t ts q u = (mod_word (Index (place_in ts t q)) (stay_word n u), ts)

-- a switch from the first tag to the tag n, at c places from x on
abbrev pub switch_places : List ℕ → List ℕ → ℕ → ℕ → WordTree
switch_places first n x zero = no_primitives
switch_places first n x (suc c) =
    joined (mod_word (Index x) (switch_word first n no_primitives)) (switch_places first n (x + 1) c)

-- Insertions are at the end of the list; those of another tag than the first are switched to it.
abbrev pub insert_occurrences : List ℕ → List ℕ → ℕ → List ℕ → ℕ → Parted
insert_occurrences first n t ts c = (
  joined (shape_word (Ins c)) (if nat_eq t 0 then no_primitives else switch_places first n (length ts) c),
  ts ++ replicate c t,
)

-- the last item with the tag t is moved to the end and deleted
abbrev pub delete_last : ℕ → List ℕ → Parted
delete_last t ts =
    let p = place_in ts t (count t ts - 1) in
    (joined (mv p (length ts - 1)) (shape_word (Del 1)), remove ts p)

-- Del c does so c times, each time with the tags that are left.
abbrev pub delete_occurrences : ℕ → List ℕ → ℕ → Parted
delete_occurrences t ts zero = (no_primitives, ts)
delete_occurrences t ts (suc c) =
    let first = delete_last t ts in
    let others = delete_occurrences t first.1 c in
    (joined first.0 others.0, others.1)

-- MoveItem i j moves the item at the place of occurrence i to that of occurrence j.
abbrev pub move_occurrence : ℕ → List ℕ → ℕ → ℕ → Parted
move_occurrence t ts i j =
    let from = place_in ts t i in
    let to = place_in ts t j in
    (mv from to, moved from to ts)

-- the place y goes to the place of occurrence f[x] where y is the place of occurrence x, and stays else
abbrev pub place_from : ℕ → List ℕ → List ℕ → ℕ → ℕ
place_from t ts f y = if nat_eq t (slice_index ts y) then place_in ts t (slice_index f (rank t y ts)) else y

-- Reorder f reorders the items with the tag t among their places.
abbrev pub reorder_occurrences : ℕ → List ℕ → List ℕ → Parted
reorder_occurrences t ts f = (reorder (map (place_from t ts f) (range_with_len 0 (length ts))), ts)

-- one primitive of the list of the tag t
abbrev pub part_occurrence : List ℕ → List ℕ → ℕ → List ℕ → PrimitiveTree → Option Parted
part_occurrence first n t ts (modify (Index q) u) = where_holds (nat_lt q (count t ts)) (mod_occurrence n t ts q u)
part_occurrence first n t ts (shape (Ins c)) = where_holds (is_count c) (insert_occurrences first n t ts c)
part_occurrence first n t ts (shape (Del c)) =
    where_holds (is_count c && nat_le c (count t ts)) (delete_occurrences t ts c)
part_occurrence first n t ts (shape (MoveItem i j)) =
    where_holds (nat_lt i (count t ts) && nat_lt j (count t ts)) (move_occurrence t ts i j)
part_occurrence first n t ts (shape (Reorder f)) =
    where_holds (nat_eq (length f) (count t ts) && is_each_new (count t ts) [] f) (reorder_occurrences t ts f)
part_occurrence first n t ts _ = None

-- one primitive of the record
abbrev pub part_right : FieldTrees → List ℕ → PrimitiveTree → Option Parted
part_right fs ts (at n w) =
    option_and_then (λ t. one_by_one (part_occurrence (tag_name fs 0) n t) ts w) (tag_number fs n)
part_right fs ts _ = None
