-- Two words never have the same tree: here is a way back from a tree, which asks nothing of its numbers and serves proofs alone.
use Rattle.std.proofs.Common.{◌≡◌, ℕ, ℤ, pos, negsuc, List, [], ◌∷◌, Some, None, refl, sym, ap, ap₂, ◌∙◌}
use Rattle.serde_json.specs.Data.{Data, null, boolean, number, string, array, object, unsigned, negative, Items, no_items, item, no_members, member}
use Rattle.hold_shapes.specs.declared.edit.Place.{Place}
use Rattle.hold_shapes.specs.declared.edit.Place.TheVariants as places
use Rattle.hold_shapes.specs.declared.edit.ShapeEdit.{ShapeEdit}
use Rattle.hold_shapes.specs.declared.edit.ShapeEdit.TheVariants as edits
use Rattle.value_json.specs.Numbers.{int_tree, count_items}
use Rattle.edit_module.specs.Words.{PrimitiveTree, set, add, splice, at, stay, switch, modify, shape, WordTree, no_primitives, more_primitives}
use Rattle.edit_module.specs.declared.atom.Atom.{Atom}
use Rattle.edit_module.specs.declared.atom.Atom.TheVariants.{Truth, Number, Letters}
use Rattle.edit_json.specs.Kinds.{kind_of}
use Rattle.edit_json.specs.Values.{tree_of_atom, tree_of_place}
use Rattle.edit_json.specs.WordJson.{tree_of_shape_edit, tree_of_primitive, items_of_word, tree_of_word}
use Rattle.edit_json.specs.declared.kind.Kind.{Kind}
use Rattle.edit_json.specs.declared.kind.Kind.TheVariants.{Set, Add, Splice, At, Stay, Switch, Mod, Ins, Del, Move, Reorder, Put, Drop, Rename, Graft, Prune, Shift, Hang}

-- ---- values

abbrev int_back : Data → ℤ
int_back (number (unsigned n)) = pos n
int_back (number (negative z)) = z
int_back _ = pos 0

abbrev count_back : Data → ℕ
count_back (number (unsigned n)) = n
count_back _ = 0

abbrev text_back : Data → List ℕ
text_back (string s) = s
text_back _ = []

abbrev items_back : Items → List ℕ
items_back no_items = []
items_back (item d ds) = count_back d ∷ items_back ds

abbrev counts_back : Data → List ℕ
counts_back (array ds) = items_back ds
counts_back _ = []

abbrev atom_back : Data → Atom
atom_back (boolean b) = Truth b
atom_back (string s) = Letters s
atom_back d = Number (int_back d)

abbrev place_back : Data → Place
place_back (string s) = places.Key s
place_back (array ds) = places.Node (items_back ds)
place_back d = places.Index (count_back d)

-- the items of an array, from the first on
abbrev first : Data → Data
first (array (item d ds)) = d
first _ = null

abbrev second : Data → Data
second (array (item d (item e ds))) = e
second _ = null

abbrev third : Data → Data
third (array (item d (item e (item f ds)))) = f
third _ = null

int_same : (z : ℤ) → int_back (int_tree z) ≡ z
int_same (pos n) = refl
int_same (negsuc n) = refl

counts_same : (ns : List ℕ) → items_back (count_items ns) ≡ ns
counts_same [] = refl
counts_same (n ∷ ns) = ap (λ ms. n ∷ ms) (counts_same ns)

atom_same : (v : Atom) → atom_back (tree_of_atom v) ≡ v
atom_same (Truth b) = refl
atom_same (Number (pos n)) = refl
atom_same (Number (negsuc n)) = refl
atom_same (Letters s) = refl

place_same : (p : Place) → place_back (tree_of_place p) ≡ p
place_same (places.Index n) = refl
place_same (places.Key k) = refl
place_same (places.Node q) = ap places.Node (counts_same q)

-- ---- words

-- a primitive without an inner word, by what it does and by the content of its member
abbrev leaf_back : Kind → Data → PrimitiveTree
leaf_back Set d = set (atom_back d)
leaf_back Add d = add (int_back d)
leaf_back Splice d = splice (count_back (first d)) (count_back (second d)) (text_back (third d))
leaf_back Ins d = shape (edits.Ins (count_back d))
leaf_back Del d = shape (edits.Del (count_back d))
leaf_back Move d = shape (edits.MoveItem (count_back (first d)) (count_back (second d)))
leaf_back Reorder d = shape (edits.Reorder (counts_back d))
leaf_back Put d = shape (edits.PutKey (text_back d))
leaf_back Drop d = shape (edits.DropKey (text_back d))
leaf_back Rename d = shape (edits.RenameKey (text_back (first d)) (text_back (second d)))
leaf_back Graft d = shape (edits.Graft (counts_back d))
leaf_back Prune d = shape (edits.Prune (counts_back d))
leaf_back Shift d = shape (edits.Shift (counts_back (first d)) (count_back (second d)) (count_back (third d)))
leaf_back Hang d = shape (edits.Hang (counts_back (first d)) (counts_back (second d)))
leaf_back _ d = add (pos 0)

abbrev kind_back : List ℕ → Kind
kind_back k = elim (kind_of k) [ None ↦ Add | Some kind ↦ kind ]

abbrev mutual
  primitive_back : Data → PrimitiveTree
  primitive_back (object (member k d no_members)) = content_back (kind_back k) d
  primitive_back _ = add (pos 0)

  content_back : Kind → Data → PrimitiveTree
  content_back At (array (item f (item w no_items))) = at (text_back f) (word_back w)
  content_back Stay (array (item t (item w no_items))) = stay (text_back t) (word_back w)
  content_back Switch (array (item a (item b (item w no_items)))) = switch (text_back a) (text_back b) (word_back w)
  content_back Mod (array (item p (item w no_items))) = modify (place_back p) (word_back w)
  content_back kind d = leaf_back kind d

  word_back : Data → WordTree
  word_back (array ds) = primitives_back ds
  word_back _ = no_primitives

  primitives_back : Items → WordTree
  primitives_back no_items = no_primitives
  primitives_back (item d ds) = more_primitives (primitive_back d) (primitives_back ds)

shape_same : (e : ShapeEdit) → primitive_back (tree_of_shape_edit e) ≡ shape e
shape_same (edits.Ins n) = refl
shape_same (edits.Del n) = refl
shape_same (edits.MoveItem i j) = refl
shape_same (edits.Reorder ns) = ap (λ q. shape (edits.Reorder q)) (counts_same ns)
shape_same (edits.PutKey k) = refl
shape_same (edits.DropKey k) = refl
shape_same (edits.RenameKey k m) = refl
shape_same (edits.Graft q) = ap (λ q. shape (edits.Graft q)) (counts_same q)
shape_same (edits.Prune q) = ap (λ q. shape (edits.Prune q)) (counts_same q)
shape_same (edits.Shift q i j) = ap (λ q. shape (edits.Shift q i j)) (counts_same q)
shape_same (edits.Hang p q) = ap₂ (λ p q. shape (edits.Hang p q)) (counts_same p) (counts_same q)

mutual
  primitive_same : (p : PrimitiveTree) → primitive_back (tree_of_primitive p) ≡ p
  primitive_same (set v) = ap set (atom_same v)
  primitive_same (add n) = ap add (int_same n)
  primitive_same (splice i k s) = refl
  primitive_same (at f w) = ap (at f) (word_same w)
  primitive_same (stay t w) = ap (stay t) (word_same w)
  primitive_same (switch a b w) = ap (switch a b) (word_same w)
  primitive_same (modify p w) = ap₂ modify (place_same p) (word_same w)
  primitive_same (shape e) = shape_same e

  word_same : (w : WordTree) → primitives_back (items_of_word w) ≡ w
  word_same no_primitives = refl
  word_same (more_primitives p w) = ap₂ more_primitives (primitive_same p) (word_same w)

pub words_differ : (v w : WordTree) → tree_of_word v ≡ tree_of_word w → v ≡ w
words_differ v w same = sym (word_same v) ∙ ap word_back same ∙ word_same w
