-- Sizes and places of shapes. The main definitions are `size_of` and `place_of`.
use Rattle.std.specs.Prelude.{ℕ, if◌then◌else◌, length, Option, Some, None, nat_lt}
use Rattle.hold_shapes.specs.declared.shape.Shape.{Shape}
use Rattle.hold_shapes.specs.declared.shape.Shape.TheVariants.{List as ListOf, Keyed as KeyedOf, Tree as TreeOf}
use Rattle.hold_shapes.specs.declared.edit.Place.{Place}
use Rattle.hold_shapes.specs.declared.edit.Place.TheVariants.{Index, Key, Node}
use Rattle.texts.specs.Keys.{key_place}
use Rattle.hold_shapes.specs.Trees.{node}

-- how many places a shape has
abbrev pub size_of : Shape → ℕ
size_of (ListOf s) = s.count
size_of (KeyedOf names) = length names
size_of (TreeOf depths) = length depths

-- the number of a place, if the shape has it; a shape has no place of another kind
abbrev pub place_of : Shape → Place → Option ℕ
place_of (ListOf s) (Index p) = if nat_lt p s.count then Some p else None
place_of (KeyedOf names) (Key k) = key_place k names
place_of (TreeOf depths) (Node path) = node depths path
place_of s p = None
