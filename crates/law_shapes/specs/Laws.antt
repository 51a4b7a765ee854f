-- What every plan keeps, by the kind of its edit. From the end: `KeepsFamily`, `KeepsContent`, `KeepsPlaces`,
-- `IsArranged`.
use Rattle.std.specs.Prelude.{◌≡◌, ℕ, ◌+◌, ◌<◌, ◌≤◌, Bool, true, false, List, [], ◌∷◌, ◌++◌, length, map, take, drop}
use Rattle.std.specs.Prelude.{replicate, slice_index, slice_range, slice_set, Option, Some, None, nat_eq}
use Rattle.std.specs.List.{All, count_by}
use Rattle.std.specs.List.Sorted.{IsPermutation}
use Rattle.hold_shapes.specs.declared.shape.Shape.{Shape}
use Rattle.hold_shapes.specs.declared.shape.Shape.TheVariants.{List as ListOf, Keyed as KeyedOf, Tree as TreeOf}
use Rattle.hold_shapes.specs.declared.origins.Origin.{Origin}
use Rattle.hold_shapes.specs.declared.origins.Origin.TheVariants.{Old, Fresh}
use Rattle.hold_shapes.specs.declared.edit.ShapeEdit.{ShapeEdit}
use Rattle.hold_shapes.specs.declared.edit.ShapeEdit.TheVariants.{Ins, Del, MoveItem, Reorder, PutKey, DropKey}
use Rattle.hold_shapes.specs.declared.edit.ShapeEdit.TheVariants.{RenameKey, Graft, Prune, Shift, Hang}
use Rattle.hold_shapes.specs.Plans.{old_places, remove_part, moved_depths}
use Rattle.texts.specs.Keys.{key_place}
use Rattle.hold_shapes.specs.Trees.{node, child_at, end_of}
use Rattle.law_shapes.specs.Parents.{parents}
use Rattle.hold_shapes.specs.Gather.{IsBelow, content_at}

-- whether an origin is this old place
abbrev pub is_old : ℕ → Origin → Bool
is_old k Fresh = false
is_old k (Old j) = nat_eq k j

-- an old place below n occurs at most once, and no other does
abbrev pub IsOnce : ℕ → List Origin → Type 0
IsOnce n from = All (IsBelow n) from × ((k : ℕ) → count_by (is_old k) from ≤ 1)

-- an origin is an old place
abbrev pub IsOld : Origin → Type 0
IsOld (Old k) = Unit {0}
IsOld Fresh = ⊥

-- each old place below n stands exactly once among the origins
abbrev pub KeepsAll : ℕ → List Origin → Type 0
KeepsAll n from = (k : ℕ) → k < n → count_by (is_old k) from ≡ 1

-- no origin is fresh
abbrev pub AddsNone : List Origin → Type 0
AddsNone from = All IsOld from

-- two shapes are of one kind
abbrev pub is_same_kind : Shape → Shape → Bool
is_same_kind (ListOf s) (ListOf t) = true
is_same_kind (KeyedOf s) (KeyedOf t) = true
is_same_kind (TreeOf s) (TreeOf t) = true
is_same_kind s t = false

-- all old places and some fresh ones, in some order
abbrev pub Inserts : ℕ → List Origin → Type 0
Inserts n from = (c : ℕ) × IsPermutation (old_places n ++ replicate c Fresh) from

-- old places alone; with the lost ones they are all of them
abbrev pub Deletes : ℕ → List Origin → Type 0
Deletes n from = (lost : List Origin) × IsPermutation (old_places n) (from ++ lost)

-- the old places in another order
abbrev pub Rearranges : ℕ → List Origin → Type 0
Rearranges n from = IsPermutation (old_places n) from

-- the origins of a plan from n old places, by the sort of its edit
abbrev pub IsArranged : ShapeEdit → ℕ → List Origin → Type 0
IsArranged (Ins c) = Inserts
IsArranged (Del c) = Deletes
IsArranged (MoveItem i j) = Rearranges
IsArranged (Reorder f) = Rearranges
IsArranged (PutKey k) = Inserts
IsArranged (DropKey k) = Deletes
IsArranged (RenameKey k m) = Rearranges
IsArranged (Graft q) = Inserts
IsArranged (Prune q) = Deletes
IsArranged (Shift q i j) = Rearranges
IsArranged (Hang p q) = Rearranges

-- insertions keep all old places, deletions add no fresh one, rearrangements do both
abbrev pub KeepsPlaces : ShapeEdit → ℕ → List Origin → Type 0
KeepsPlaces (Ins c) n from = KeepsAll n from
KeepsPlaces (Del c) n from = AddsNone from
KeepsPlaces (MoveItem i j) n from = KeepsAll n from × AddsNone from
KeepsPlaces (Reorder f) n from = KeepsAll n from × AddsNone from
KeepsPlaces (PutKey k) n from = KeepsAll n from
KeepsPlaces (DropKey k) n from = AddsNone from
KeepsPlaces (RenameKey k m) n from = KeepsAll n from × AddsNone from
KeepsPlaces (Graft q) n from = KeepsAll n from
KeepsPlaces (Prune q) n from = AddsNone from
KeepsPlaces (Shift q i j) n from = KeepsAll n from × AddsNone from
KeepsPlaces (Hang p q) n from = KeepsAll n from × AddsNone from

-- ---- what the places hold

-- the names that the old places of a keyed map have afterwards: under a rename, m in place of k
abbrev pub renamed_at : List (List ℕ) → List ℕ → Option ℕ → List (List ℕ)
renamed_at ks m None = ks
renamed_at ks m (Some p) = slice_set ks p m

abbrev pub names_after : ShapeEdit → List (List ℕ) → List (List ℕ)
names_after (RenameKey k m) ks = renamed_at ks m (key_place k ks)
names_after e ks = ks

-- the name of a fresh key
abbrev pub fresh_name : ShapeEdit → List ℕ
fresh_name (PutKey k) = k
fresh_name e = []

-- the depths that the old nodes of a tree have afterwards: under a hang, those of the subtree from a to e are counted
-- from below a node of the rest
abbrev pub hung_below : List ℕ → ℕ → ℕ → List ℕ → Option ℕ → List ℕ
hung_below ds a e rest None = ds
hung_below ds a e rest (Some r) =
    take a ds ++ (moved_depths (slice_index ds a) (slice_index rest r) (slice_range ds a e) ++ drop e ds)

abbrev pub hung_at : List ℕ → List ℕ → Option ℕ → List ℕ
hung_at ds q None = ds
hung_at ds q (Some a) =
    hung_below ds a (end_of ds a) (remove_part a (end_of ds a) ds) (node (remove_part a (end_of ds a) ds) q)

abbrev pub depths_after : ShapeEdit → List ℕ → List ℕ
depths_after (Hang p q) ds = hung_at ds q (node ds p)
depths_after e ds = ds

-- the depth of a fresh node: one more than that of the node it is grafted on
abbrev pub depth_below : List ℕ → Option ℕ → ℕ
depth_below ds None = 0
depth_below ds (Some p) = slice_index ds p + 1

abbrev pub fresh_depth : ShapeEdit → List ℕ → ℕ
fresh_depth (Graft q) ds = depth_below ds (node ds q)
fresh_depth e ds = 0

-- the new shape is keyed, and each of its keys has the name that its origin has in cs, a fresh one the name d
abbrev pub MovesNames : List (List ℕ) → List ℕ → Shape → List Origin → Type 0
MovesNames cs d (KeyedOf new) from = new ≡ map (content_at cs d) from
MovesNames cs d shape from = ⊥

-- the new shape is a tree, and each of its nodes has the depth that its origin has in cs, a fresh one the depth d
abbrev pub MovesDepths : List ℕ → ℕ → Shape → List Origin → Type 0
MovesDepths cs d (TreeOf new) from = new ≡ map (content_at cs d) from
MovesDepths cs d shape from = ⊥

-- Names and depths move with their places, just as contents are gathered.
-- Only a rename gives a name anew, and only a hang gives depths anew: to the nodes that it moves, all by the same
-- difference.
abbrev pub KeepsContent : ShapeEdit → Shape → Shape → List Origin → Type 0
KeepsContent e (ListOf l) = λ shape from. Unit {0}
KeepsContent e (KeyedOf ks) = MovesNames (names_after e ks) (fresh_name e)
KeepsContent e (TreeOf ds) = MovesDepths (depths_after e ds) (fresh_depth e ds)

-- ---- which node hangs below which

-- the place of the root of the subtree that an edit moves
abbrev pub moved_root : ShapeEdit → List ℕ → Option ℕ
moved_root (Shift q i j) ds = child_at ds i (node ds q)
moved_root (Hang p q) ds = node ds p
moved_root e ds = None

-- the old place a may have another parent; all others have the one that they had
abbrev pub OnlyMoves : Option ℕ → List (Origin × Option Origin) → List (Origin × Option Origin) → Type 0
OnlyMoves None old new = ⊥
OnlyMoves (Some a) old new =
    (was : Option Origin) × (is : Option Origin) × (others : List (Origin × Option Origin))
    × IsPermutation old ((Old a, was) ∷ others) × IsPermutation new ((Old a, is) ∷ others)

-- The nodes of a tree before and after an edit, each with its parent, all called by their old places.
-- A graft adds one node and takes no parent away, a prune takes nodes away and no parent from those that stay, and a
-- shift or a hang moves one node, with all that is below it.
abbrev pub KeepsParents : ShapeEdit → List ℕ → List (Origin × Option Origin) → List (Origin × Option Origin) → Type 0
KeepsParents (Graft q) ds old new = (parent : Option Origin) × IsPermutation new ((Fresh, parent) ∷ old)
KeepsParents (Prune q) ds old new = (lost : List (Origin × Option Origin)) × IsPermutation old (new ++ lost)
KeepsParents e ds old new = OnlyMoves (moved_root e ds) old new

abbrev pub MovesFamily : ShapeEdit → List ℕ → Shape → List Origin → Type 0
MovesFamily e ds (TreeOf new) from = KeepsParents e ds (parents ds (old_places (length ds))) (parents new from)
MovesFamily e ds shape from = ⊥

abbrev pub KeepsFamily : ShapeEdit → Shape → Shape → List Origin → Type 0
KeepsFamily e (ListOf l) = λ shape from. Unit {0}
KeepsFamily e (KeyedOf ks) = λ shape from. Unit {0}
KeepsFamily e (TreeOf ds) = MovesFamily e ds
