-- The tree of a word has no float, and each level of words adds three levels to it.
use Rattle.std.proofs.Common.{◌≡◌, ◌+◌, ◌*◌, ◌≤◌, ℤ, pos, negsuc, false, refl, arith}
use Rattle.hold_shapes.specs.declared.edit.Place.{Place}
use Rattle.hold_shapes.specs.declared.edit.Place.TheVariants as places
use Rattle.hold_shapes.specs.declared.edit.ShapeEdit.{ShapeEdit}
use Rattle.hold_shapes.specs.declared.edit.ShapeEdit.TheVariants as edits
use Rattle.edit_module.specs.declared.atom.Atom.{Atom}
use Rattle.edit_module.specs.declared.atom.Atom.TheVariants as atoms
use Rattle.serde_json.specs.Data.{depth, items_depth}
use Rattle.serde_json.specs.Written.{has_float, items_have_float}
use Rattle.edit_module.specs.Words.{PrimitiveTree, set, add, splice, at, stay, switch, modify, shape, WordTree, no_primitives, more_primitives}
use Rattle.value_json.specs.Numbers.{int_tree}
use Rattle.value_json.proofs.TreeDepths.{int_whole, counts_whole, counts_flat}
use Rattle.edit_json.specs.Values.{tree_of_atom, tree_of_place}
use Rattle.edit_json.specs.WordJson.{tree_of_shape_edit, tree_of_primitive, items_of_word, tree_of_word}
use Rattle.edit_json.specs.Depths.{primitive_depth, word_depth}

-- ---- no float

atom_whole : (v : Atom) → has_float (tree_of_atom v) ≡ false
atom_whole (atoms.Truth b) = refl
atom_whole (atoms.Number n) = int_whole n
atom_whole (atoms.Letters s) = refl

place_whole : (p : Place) → has_float (tree_of_place p) ≡ false
place_whole (places.Index n) = refl
place_whole (places.Key k) = refl
place_whole (places.Node q) = counts_whole q

shape_whole : (e : ShapeEdit) → has_float (tree_of_shape_edit e) ≡ false
shape_whole (edits.Ins n) = refl
shape_whole (edits.Del n) = refl
shape_whole (edits.MoveItem i j) = refl
shape_whole (edits.Reorder ns) = rw (counts_whole ns) refl
shape_whole (edits.PutKey k) = refl
shape_whole (edits.DropKey k) = refl
shape_whole (edits.RenameKey k m) = refl
shape_whole (edits.Graft q) = rw (counts_whole q) refl
shape_whole (edits.Prune q) = rw (counts_whole q) refl
shape_whole (edits.Shift q i j) = rw (counts_whole q) refl
shape_whole (edits.Hang p q) = rw (counts_whole p, counts_whole q) refl

mutual
  primitive_whole : (p : PrimitiveTree) → has_float (tree_of_primitive p) ≡ false
  primitive_whole (set v) = rw (atom_whole v) refl
  primitive_whole (add n) = rw (int_whole n) refl
  primitive_whole (splice i k s) = refl
  primitive_whole (at f w) = rw (items_whole w) refl
  primitive_whole (stay t w) = rw (items_whole w) refl
  primitive_whole (switch a b w) = rw (items_whole w) refl
  primitive_whole (modify p w) = rw (place_whole p, items_whole w) refl
  primitive_whole (shape e) = shape_whole e

  items_whole : (w : WordTree) → items_have_float (items_of_word w) ≡ false
  items_whole no_primitives = refl
  items_whole (more_primitives p w) = rw (primitive_whole p, items_whole w) refl

pub whole : (w : WordTree) → has_float (tree_of_word w) ≡ false
whole w = items_whole w

-- ---- depth

int_flat : (n : ℤ) → depth (int_tree n) ≡ 0
int_flat (pos n) = refl
int_flat (negsuc n) = refl

atom_flat : (v : Atom) → depth (tree_of_atom v) ≡ 0
atom_flat (atoms.Truth b) = refl
atom_flat (atoms.Number n) = int_flat n
atom_flat (atoms.Letters s) = refl

place_low : (p : Place) → depth (tree_of_place p) ≤ 1
place_low (places.Index n) = omega arith
place_low (places.Key k) = omega arith
place_low (places.Node q) = omega (arith, counts_flat q)

shape_low : (e : ShapeEdit) → depth (tree_of_shape_edit e) ≤ 3
shape_low (edits.Ins n) = omega arith
shape_low (edits.Del n) = omega arith
shape_low (edits.MoveItem i j) = omega arith
shape_low (edits.Reorder ns) = omega (arith, counts_flat ns)
shape_low (edits.PutKey k) = omega arith
shape_low (edits.DropKey k) = omega arith
shape_low (edits.RenameKey k m) = omega arith
shape_low (edits.Graft q) = omega (arith, counts_flat q)
shape_low (edits.Prune q) = omega (arith, counts_flat q)
shape_low (edits.Shift q i j) = omega (arith, counts_flat q)
shape_low (edits.Hang p q) = omega (arith, counts_flat p, counts_flat q)

mutual
  -- two levels for the object and its array, and one for the inner word's array
  primitive_low : (p : PrimitiveTree) → depth (tree_of_primitive p) ≤ 3 * primitive_depth p + 3
  primitive_low (set v) = omega (arith, atom_flat v)
  primitive_low (add n) = omega (arith, int_flat n)
  primitive_low (splice i k s) = omega arith
  primitive_low (at f w) = omega (arith, items_low w)
  primitive_low (stay t w) = omega (arith, items_low w)
  primitive_low (switch a b w) = omega (arith, items_low w)
  primitive_low (modify p w) = omega (arith, place_low p, items_low w)
  primitive_low (shape e) = shape_low e

  items_low : (w : WordTree) → items_depth (items_of_word w) ≤ 3 * word_depth w
  items_low no_primitives = omega arith
  items_low (more_primitives p w) = omega (arith, primitive_low p, items_low w)

pub shallow : (w : WordTree) → depth (tree_of_word w) ≤ 3 * word_depth w + 1
shallow w = omega (arith, items_low w)
