-- The tree of a word is read back as the word.
use Rattle.std.proofs.Common.{◌≡◌, ℕ, ℤ, pos, negsuc, true, ◌&&◌, List, [], ◌∷◌, Some, option_map, refl, ap, arith}
use Rattle.std.proofs.lemmas.Bool.Decides.{nat_tests}
use Rattle.hold_shapes.specs.Plans.{is_count}
use Rattle.hold_shapes.specs.declared.edit.Place.{Place}
use Rattle.hold_shapes.specs.declared.edit.Place.TheVariants as places
use Rattle.hold_shapes.specs.declared.edit.ShapeEdit.{ShapeEdit}
use Rattle.hold_shapes.specs.declared.edit.ShapeEdit.TheVariants as edits
use Rattle.edit_module.specs.declared.atom.Atom.{Atom}
use Rattle.edit_module.specs.declared.atom.Atom.TheVariants as atoms
use Rattle.edit_module.specs.Words.{PrimitiveTree, set, add, splice, at, stay, switch, modify, shape, WordTree, no_primitives, more_primitives}
use Rattle.doc_values.specs.Integers.{fits_i64}
use Rattle.value_json.specs.Numbers.{counts_of, int_tree, count_tree, count_items}
use Rattle.texts.proofs.Conjunction.{first as left, second as right}
use Rattle.value_json.proofs.WritingReadsBack.{int_again}
use Rattle.edit_json.specs.Values.{tree_of_atom, tree_of_place, atom_of, data_place, item_count_of, fits_u64, all_fit_u64, atom_fits, place_fits}
use Rattle.edit_json.specs.WordJson.{tree_of_shape_edit, tree_of_primitive, items_of_word, tree_of_word, primitive_of, word_of_tree, word_of_items, edit_counts_fit, primitive_counts_fit, counts_fit, edit_numbers_fit, primitive_numbers_fit, numbers_fit}

counts_again : (ns : List ℕ) → all_fit_u64 ns ≡ true → counts_of (count_items ns) ≡ Some ns
counts_again [] h = refl
counts_again (n ∷ ns) h = rw (left (fits_u64 n) (all_fit_u64 ns) h, counts_again ns (right (fits_u64 n) (all_fit_u64 ns) h)) refl

atom_again : (v : Atom) → atom_fits v ≡ true → atom_of (tree_of_atom v) ≡ Some v
atom_again (atoms.Truth b) h = refl
atom_again (atoms.Number n) h = number_again n h where
  number_again : (n : ℤ) → fits_i64 n ≡ true → atom_of (int_tree n) ≡ Some (atoms.Number n)
  number_again (pos n) h = rw h refl
  number_again (negsuc n) h = rw h refl
atom_again (atoms.Letters s) h = refl

place_again : (p : Place) → place_fits p ≡ true → data_place (tree_of_place p) ≡ Some p
place_again (places.Index n) h = rw h refl
place_again (places.Key k) h = refl
place_again (places.Node q) h = ap (option_map places.Node) (counts_again q h)

pub is_u64 : (n : ℕ) → is_count n ≡ true → fits_u64 n ≡ true
is_u64 n h = grind (arith, nat_tests)

item_count_again : (n : ℕ) → is_count n ≡ true → item_count_of (count_tree n) ≡ Some n
item_count_again n h = rw (is_u64 n h, h) refl

shape_again : (e : ShapeEdit) → edit_counts_fit e ≡ true → edit_numbers_fit e ≡ true → primitive_of (tree_of_shape_edit e) ≡ Some (shape e)
unfolding primitive_of
shape_again (edits.Ins n) h k = ap (option_map (λ n. shape (edits.Ins n))) (item_count_again n h)
shape_again (edits.Del n) h k = ap (option_map (λ n. shape (edits.Del n))) (item_count_again n h)
shape_again (edits.MoveItem i j) h k = rw (left (fits_u64 i) (fits_u64 j) k, right (fits_u64 i) (fits_u64 j) k) refl
shape_again (edits.Reorder ns) h k = rw (counts_again ns k) refl
shape_again (edits.PutKey key) h k = refl
shape_again (edits.DropKey key) h k = refl
shape_again (edits.RenameKey key new) h k = refl
shape_again (edits.Graft q) h k = rw (counts_again q k) refl
shape_again (edits.Prune q) h k = rw (counts_again q k) refl
shape_again (edits.Shift q i j) h k =
    let path = left (all_fit_u64 q) (fits_u64 i && fits_u64 j) k in
    let numbers = right (all_fit_u64 q) (fits_u64 i && fits_u64 j) k in
    rw (counts_again q path, left (fits_u64 i) (fits_u64 j) numbers, right (fits_u64 i) (fits_u64 j) numbers) refl
shape_again (edits.Hang p q) h k = rw (counts_again p (left (all_fit_u64 p) (all_fit_u64 q) k), counts_again q (right (all_fit_u64 p) (all_fit_u64 q) k)) refl

mutual
  unfolding primitive_of

  primitive_again : (p : PrimitiveTree) → primitive_counts_fit p ≡ true → primitive_numbers_fit p ≡ true → primitive_of (tree_of_primitive p) ≡ Some p
  primitive_again (set v) h k = rw (atom_again v k) refl
  primitive_again (add n) h k = rw (int_again n k) refl
  primitive_again (splice i n s) h k = rw (left (fits_u64 i) (fits_u64 n) k, right (fits_u64 i) (fits_u64 n) k) refl
  primitive_again (at f w) h k = rw (items_again w h k) refl
  primitive_again (stay t w) h k = rw (items_again w h k) refl
  primitive_again (switch a b w) h k = rw (items_again w h k) refl
  primitive_again (modify p w) h k = rw (place_again p (left (place_fits p) (numbers_fit w) k), items_again w h (right (place_fits p) (numbers_fit w) k)) refl
  primitive_again (shape e) h k = shape_again e h k

  items_again : (w : WordTree) → counts_fit w ≡ true → numbers_fit w ≡ true → word_of_items (items_of_word w) ≡ Some w
  items_again no_primitives h k = refl
  items_again (more_primitives p w) h k =
      rw (
        primitive_again p (left (primitive_counts_fit p) (counts_fit w) h) (left (primitive_numbers_fit p) (numbers_fit w) k),
        items_again w (right (primitive_counts_fit p) (counts_fit w) h) (right (primitive_numbers_fit p) (numbers_fit w) k),
      ) refl

pub again : (w : WordTree) → counts_fit w ≡ true → numbers_fit w ≡ true → word_of_tree (tree_of_word w) ≡ Some w
unfolding primitive_of
again w h k = items_again w h k
