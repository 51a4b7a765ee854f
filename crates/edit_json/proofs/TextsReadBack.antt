-- The text of a word's tree is read back as the tree.
use Rattle.std.proofs.Common.{◌≡◌, ℕ, suc, ◌+◌, ◌*◌, ◌^◌, ◌<◌, ◌≤◌, ℤ, pos, negsuc, true, List, [], ◌∷◌, Some, option_map, refl, sym, ap, ap₂, ◌∙◌, arith, append-nil}
use Rattle.std.specs.Prelude.{max, option_and_then}
use Rattle.std.proofs.lemmas.Bool.Decides.{nat_tests}
use Rattle.json.specs.Json as json
use Rattle.json.specs.Tree as tree
use Rattle.json.specs.Tree.{json_tokens, HasNumbers, ItemsHaveNumbers}
use Rattle.json.proofs.Printed.Decimals.{IsNumber-decimal, IsNumber-signed_decimal}
use Rattle.json.proofs.Printed.Tokens.{tokens-print}
use Rattle.json.proofs.Printed.Trees.{value-json_tokens, ArePrintable-json_tokens}
use Rattle.serde_json.specs.Data.{Data, number, string, array, Items, no_items, item, depth, items_depth}
use Rattle.serde_json.specs.Read.{read, max_depth, of_json, of_items}
use Rattle.serde_json.specs.Written.{outline, items_outline, compact_text}
use Rattle.serde_json.proofs.Numbers.{number_of-decimal, number_of-negative}
use Rattle.serde_json.proofs.Texts.{print-outline}
use Rattle.texts.proofs.Conjunction.{first as left, second as right}
use Rattle.hold_shapes.specs.declared.edit.Place.{Place}
use Rattle.hold_shapes.specs.declared.edit.Place.TheVariants as places
use Rattle.hold_shapes.specs.declared.edit.ShapeEdit.{ShapeEdit}
use Rattle.hold_shapes.specs.declared.edit.ShapeEdit.TheVariants as edits
use Rattle.edit_module.specs.declared.atom.Atom.{Atom}
use Rattle.edit_module.specs.declared.atom.Atom.TheVariants as atoms
use Rattle.edit_module.specs.Words.{PrimitiveTree, set, add, splice, at, stay, switch, modify, shape, WordTree, no_primitives, more_primitives}
use Rattle.doc_values.specs.Integers.{fits_i64}
use Rattle.value_json.specs.Numbers.{int_tree, count_tree, count_items}
use Rattle.edit_json.specs.Values.{tree_of_counts, tree_of_atom, tree_of_place, fits_u64, all_fit_u64, atom_fits, place_fits}
use Rattle.edit_json.specs.WordJson.{three, tree_of_shape_edit, tree_of_primitive, items_of_word, tree_of_word, edit_counts_fit, primitive_counts_fit, counts_fit, edit_numbers_fit, primitive_numbers_fit, numbers_fit}
use Rattle.value_json.specs.SmallTrees.{one_member, array_of_two}
use Rattle.edit_json.specs.Depths.{word_depth}
use Rattle.edit_json.proofs.TreeDepths.{shallow}
use Rattle.edit_json.proofs.WritingReadsBack.{is_u64}

-- what a reader makes of the JSON that is written for a tree is the tree, and it nests as deep
pub record ReadsBack (d : Data) : Type 0 where
  pub same : of_json (outline d) ≡ Some d
  pub numbers : HasNumbers (outline d)
  pub level : tree.depth (outline d) ≡ depth d

pub record ItemsReadBack (ds : Items) : Type 0 where
  pub same : of_items (items_outline ds) ≡ Some ds
  pub numbers : ItemsHaveNumbers (items_outline ds)
  pub level : tree.items_depth (items_outline ds) ≡ items_depth ds

-- the text of such a tree is read back, unless it nests too deep
pub text_of_tree : (d : Data) → ReadsBack d → depth d ≤ max_depth → read (compact_text d) ≡ Some d
text_of_tree d h low =
    let tokens_are = tokens-print (json_tokens (outline d)) (ArePrintable-json_tokens (outline d) h.numbers) ∙ sym (append-nil (json_tokens (outline d))) in
    let within : tree.depth (outline d) ≤ max_depth = omega (arith, low, h.level) in
    ap read (sym (print-outline d))
    ∙ ap (λ o. option_and_then of_json (option_and_then (λ p. json.if_last p.0 p.1) o)) (ap (json.value max_depth) tokens_are ∙ value-json_tokens (outline d) max_depth [] within)
    ∙ h.same

-- ---- arrays and objects

pub none_reads : ItemsReadBack no_items
none_reads = record { same = refl; numbers = tt; level = refl }

pub item_reads : (d : Data) (ds : Items) → ReadsBack d → ItemsReadBack ds → ItemsReadBack (item d ds)
item_reads d ds h k = record { same = rw (h.same, k.same) refl; numbers = (h.numbers, k.numbers); level = ap₂ max h.level k.level }

pub array_reads : (ds : Items) → ItemsReadBack ds → ReadsBack (array ds)
array_reads ds h = record { same = ap (option_map array) h.same; numbers = h.numbers; level = ap suc h.level }

pub one_reads : (name : List ℕ) (d : Data) → ReadsBack d → ReadsBack (one_member name d)
one_reads name d h = record { same = rw h.same refl; numbers = (h.numbers, tt); level = ap (λ n. suc (max n 0)) h.level }

two_reads : (d e : Data) → ReadsBack d → ReadsBack e → ReadsBack (array_of_two d e)
two_reads d e h k = array_reads (item d (item e no_items)) (item_reads d (item e no_items) h (item_reads e no_items k none_reads))

three_reads : (d e f : Data) → ReadsBack d → ReadsBack e → ReadsBack f → ReadsBack (three d e f)
three_reads d e f h k l = array_reads (item d (item e (item f no_items))) (item_reads d (item e (item f no_items)) h (item_reads e (item f no_items) k (item_reads f no_items l none_reads)))

-- ---- strings and numbers

pub string_reads : (s : List ℕ) → ReadsBack (string s)
string_reads s = record { same = refl; numbers = tt; level = refl }

pub count_reads : (n : ℕ) → fits_u64 n ≡ true → ReadsBack (count_tree n)
count_reads n h =
    let low : n < 2 ^ 64 = grind (arith, nat_tests) in
    record { same = ap (option_map number) (number_of-decimal n low); numbers = IsNumber-decimal n low; level = refl }

counts_read : (ns : List ℕ) → all_fit_u64 ns ≡ true → ItemsReadBack (count_items ns)
counts_read [] h = none_reads
counts_read (n ∷ ns) h = item_reads (count_tree n) (count_items ns) (count_reads n (left (fits_u64 n) (all_fit_u64 ns) h)) (counts_read ns (right (fits_u64 n) (all_fit_u64 ns) h))

path_reads : (ns : List ℕ) → all_fit_u64 ns ≡ true → ReadsBack (tree_of_counts ns)
path_reads ns h = array_reads (count_items ns) (counts_read ns h)

int_reads : (z : ℤ) → fits_i64 z ≡ true → ReadsBack (int_tree z)
int_reads (pos n) h =
    let low : n < 2 ^ 63 = grind (arith, nat_tests) in
    record { same = ap (option_map number) (number_of-decimal n (omega arith)); numbers = IsNumber-signed_decimal (pos n) low; level = refl }
int_reads (negsuc n) h =
    let low : n < 2 ^ 63 = grind (arith, nat_tests) in
    record { same = ap (option_map number) (number_of-negative n low); numbers = IsNumber-signed_decimal (negsuc n) low; level = refl }

-- ---- the values that primitives hold

atom_reads : (v : Atom) → atom_fits v ≡ true → ReadsBack (tree_of_atom v)
atom_reads (atoms.Truth b) h = record { same = refl; numbers = tt; level = refl }
atom_reads (atoms.Number n) h = int_reads n h
atom_reads (atoms.Letters s) h = string_reads s

place_reads : (p : Place) → place_fits p ≡ true → ReadsBack (tree_of_place p)
place_reads (places.Index n) h = count_reads n h
place_reads (places.Key k) h = string_reads k
place_reads (places.Node q) h = path_reads q h

-- ---- words

shape_reads : (e : ShapeEdit) → edit_counts_fit e ≡ true → edit_numbers_fit e ≡ true → ReadsBack (tree_of_shape_edit e)
shape_reads (edits.Ins n) h k = one_reads _ (count_tree n) (count_reads n (is_u64 n h))
shape_reads (edits.Del n) h k = one_reads _ (count_tree n) (count_reads n (is_u64 n h))
shape_reads (edits.MoveItem i j) h k =
    one_reads _ (array_of_two (count_tree i) (count_tree j)) (two_reads (count_tree i) (count_tree j) (count_reads i (left (fits_u64 i) (fits_u64 j) k)) (count_reads j (right (fits_u64 i) (fits_u64 j) k)))
shape_reads (edits.Reorder ns) h k = one_reads _ (tree_of_counts ns) (path_reads ns k)
shape_reads (edits.PutKey s) h k = one_reads _ (string s) (string_reads s)
shape_reads (edits.DropKey s) h k = one_reads _ (string s) (string_reads s)
shape_reads (edits.RenameKey s t) h k = one_reads _ (array_of_two (string s) (string t)) (two_reads (string s) (string t) (string_reads s) (string_reads t))
shape_reads (edits.Graft q) h k = one_reads _ (tree_of_counts q) (path_reads q k)
shape_reads (edits.Prune q) h k = one_reads _ (tree_of_counts q) (path_reads q k)
shape_reads (edits.Shift q i j) h k =
    let path = left (all_fit_u64 q) _ k in
    let ends = right (all_fit_u64 q) _ k in
    one_reads _ (three (tree_of_counts q) (count_tree i) (count_tree j))
    (three_reads (tree_of_counts q) (count_tree i) (count_tree j) (path_reads q path) (count_reads i (left (fits_u64 i) (fits_u64 j) ends)) (count_reads j (right (fits_u64 i) (fits_u64 j) ends)))
shape_reads (edits.Hang p q) h k =
    one_reads _ (array_of_two (tree_of_counts p) (tree_of_counts q))
    (two_reads (tree_of_counts p) (tree_of_counts q) (path_reads p (left (all_fit_u64 p) (all_fit_u64 q) k)) (path_reads q (right (all_fit_u64 p) (all_fit_u64 q) k)))

mutual
  primitive_reads : (p : PrimitiveTree) → primitive_counts_fit p ≡ true → primitive_numbers_fit p ≡ true → ReadsBack (tree_of_primitive p)
  primitive_reads (set v) h k = one_reads _ (tree_of_atom v) (atom_reads v k)
  primitive_reads (add n) h k = one_reads _ (int_tree n) (int_reads n k)
  primitive_reads (splice i n s) h k =
      one_reads _ (three (count_tree i) (count_tree n) (string s))
      (three_reads (count_tree i) (count_tree n) (string s) (count_reads i (left (fits_u64 i) (fits_u64 n) k)) (count_reads n (right (fits_u64 i) (fits_u64 n) k)) (string_reads s))
  primitive_reads (at f w) h k = one_reads _ (array_of_two (string f) (tree_of_word w)) (two_reads (string f) (tree_of_word w) (string_reads f) (array_reads (items_of_word w) (items_read w h k)))
  primitive_reads (stay t w) h k = one_reads _ (array_of_two (string t) (tree_of_word w)) (two_reads (string t) (tree_of_word w) (string_reads t) (array_reads (items_of_word w) (items_read w h k)))
  primitive_reads (switch a b w) h k =
      one_reads _ (three (string a) (string b) (tree_of_word w)) (three_reads (string a) (string b) (tree_of_word w) (string_reads a) (string_reads b) (array_reads (items_of_word w) (items_read w h k)))
  primitive_reads (modify p w) h k =
      one_reads _ (array_of_two (tree_of_place p) (tree_of_word w))
      (two_reads (tree_of_place p) (tree_of_word w) (place_reads p (left (place_fits p) (numbers_fit w) k)) (array_reads (items_of_word w) (items_read w h (right (place_fits p) (numbers_fit w) k))))
  primitive_reads (shape e) h k = shape_reads e h k

  items_read : (w : WordTree) → counts_fit w ≡ true → numbers_fit w ≡ true → ItemsReadBack (items_of_word w)
  items_read no_primitives h k = none_reads
  items_read (more_primitives p w) h k =
      item_reads (tree_of_primitive p) (items_of_word w) (primitive_reads p (left (primitive_counts_fit p) (counts_fit w) h) (left (primitive_numbers_fit p) (numbers_fit w) k))
      (items_read w (right (primitive_counts_fit p) (counts_fit w) h) (right (primitive_numbers_fit p) (numbers_fit w) k))

pub word_reads : (w : WordTree) → counts_fit w ≡ true → numbers_fit w ≡ true → ReadsBack (tree_of_word w)
word_reads w h k = array_reads (items_of_word w) (items_read w h k)

pub text_of_word : (w : WordTree) → counts_fit w ≡ true → numbers_fit w ≡ true → 3 * word_depth w + 1 ≤ max_depth → read (compact_text (tree_of_word w)) ≡ Some (tree_of_word w)
text_of_word w h k low = text_of_tree (tree_of_word w) (word_reads w h k) (omega (arith, low, shallow w))
