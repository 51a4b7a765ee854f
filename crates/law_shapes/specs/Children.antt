-- Edits of trees in the words of their table: by paths, numbers of children and origins.
-- In order: `children_at`, `HangsLastChild`, `MovesChild`, `LosesLastChild`.
use Rattle.std.specs.Prelude.{◌≡◌, ℕ, suc, ◌+◌, if◌then◌else◌, nat_lt, List, [], ◌∷◌, ◌++◌, length, Option, Some, None}
use Rattle.std.specs.Option.{option_map}
use Rattle.std.specs.List.{slice_get}
use Rattle.hold_shapes.specs.declared.shape.Shape.{Shape}
use Rattle.hold_shapes.specs.declared.shape.Shape.TheVariants.{Tree as TreeOf}
use Rattle.hold_shapes.specs.declared.origins.Origin.{Origin}
use Rattle.hold_shapes.specs.declared.origins.Origin.TheVariants.{Old}
use Rattle.hold_shapes.specs.Plans.{old_places, remove_part}
use Rattle.hold_shapes.specs.Trees.{node, children, end_of}

-- the path to child number i of the node that a path names
abbrev pub child_path : List ℕ → ℕ → List ℕ
child_path q i = q ++ i ∷ []

-- how many children the node that a path names has
abbrev pub children_at : List ℕ → List ℕ → Option ℕ
children_at ds q = option_map (children ds) (node ds q)

-- the origin of a place, if there is a place
abbrev pub origin_of : List Origin → Option ℕ → Option Origin
origin_of from None = None
origin_of from (Some p) = slice_get from p

-- the origin of the node that a path names
abbrev pub origin_at : List ℕ → List Origin → List ℕ → Option Origin
origin_at ds from q = origin_of from (node ds q)

-- the node at q had n children; it now has one more, and the new one is its last child, with the origin o
abbrev pub GainsLastChild : List ℕ → List ℕ → Origin → Shape → List Origin → Type 0
GainsLastChild ds q o (TreeOf new) from =
    (n : ℕ) × (children_at ds q ≡ Some n) × (children_at new q ≡ Some (n + 1))
    × (origin_at new from (child_path q n) ≡ Some o)
GainsLastChild ds q o shape from = ⊥

-- the subtree of the node at p is removed, and its root becomes the last child of the node at q of the rest
abbrev pub HangsLastChild : List ℕ → List ℕ → List ℕ → Shape → List Origin → Type 0
HangsLastChild ds p q shape from =
    (a : ℕ) × (node ds p ≡ Some a) × GainsLastChild (remove_part a (end_of ds a) ds) q (Old a) shape from

-- number k of the children besides child i, by its number among all of them
abbrev pub other_child : ℕ → ℕ → ℕ
other_child i k = if nat_lt k i then k else suc k

-- the children of the node at q besides child i before, and besides child j now, are the same in the same order
abbrev pub KeepsOtherChildren : List ℕ → List ℕ → List ℕ → ℕ → ℕ → List Origin → Type 0
KeepsOtherChildren ds new q i j from =
    (k : ℕ) → origin_at new from (child_path q (other_child j k))
    ≡ option_map Old (node ds (child_path q (other_child i k)))

-- child j of the node at q is now what its child i was; it has no child more or less, and the others keep their order
abbrev pub MovesChild : List ℕ → List ℕ → ℕ → ℕ → Shape → List Origin → Type 0
MovesChild ds q i j (TreeOf new) from =
    (c : ℕ) × (node ds (child_path q i) ≡ Some c) × (origin_at new from (child_path q j) ≡ Some (Old c))
    × (children_at new q ≡ children_at ds q)
    × KeepsOtherChildren ds new q i j from
MovesChild ds q i j shape from = ⊥

-- the node at q had a last child; it now has one child less, and the places of that child's subtree, from c to its end,
-- and no others, are gone
abbrev pub LosesLastChild : List ℕ → List ℕ → Shape → List Origin → Type 0
LosesLastChild ds q (TreeOf new) from =
    (n c : ℕ) × (children_at ds q ≡ Some (n + 1)) × (node ds (child_path q n) ≡ Some c) × (children_at new q ≡ Some n)
    × (from ≡ remove_part c (end_of ds c) (old_places (length ds)))
LosesLastChild ds q shape from = ⊥
