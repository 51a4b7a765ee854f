-- Words as JSON trees: the tree of a word, the word that a tree is, and which words have a tree.
-- From the end: which numbers fit (`numbers_fit`, `counts_fit`), `word_of_tree`, `tree_of_word`.
use Rattle.std.specs.Prelude.{ℕ, ◌&&◌, Bool, true, List, Option, Some, None, option_map, option_and_then, codes}
use Rattle.serde_json.specs.Data.{Data, string, array, object, Items, no_items, item, no_members, member}
use Rattle.serde_json.specs.Find.{as_str}
use Rattle.hold_shapes.specs.Plans.{is_count}
use Rattle.hold_shapes.specs.declared.edit.ShapeEdit.{ShapeEdit}
use Rattle.hold_shapes.specs.declared.edit.ShapeEdit.TheVariants as edits
use Rattle.edit_module.specs.Words.{PrimitiveTree, set, add, splice, at, stay, switch, modify, shape, WordTree}
use Rattle.edit_module.specs.Words.{no_primitives, more_primitives}
use Rattle.doc_values.specs.Integers.{fits_i64}
use Rattle.value_json.specs.Numbers.{int_of, count_of, int_tree, count_tree}
use Rattle.edit_json.specs.Kinds.{kind_of}
use Rattle.edit_json.specs.Values.{tree_of_counts, tree_of_atom, tree_of_place, atom_of, numbers_of, data_place}
use Rattle.value_json.specs.SmallTrees.{one_member, array_of_two}
use Rattle.edit_json.specs.Values.{item_count_of, fits_u64, all_fit_u64, atom_fits, place_fits}
use Rattle.edit_json.specs.declared.kind.Kind.{Kind}
use Rattle.edit_json.specs.declared.kind.Kind.TheVariants.{Set, Add, Splice, At, Stay, Switch, Mod, Ins, Del, Move}
use Rattle.edit_json.specs.declared.kind.Kind.TheVariants.{Reorder, Put, Drop, Rename, Graft, Prune, Shift, Hang}

-- ---- the tree of a word

-- an array of three items
abbrev pub three : Data → Data → Data → Data
three d e f = array (item d (item e (item f no_items)))

-- an edit of a shape: an object with one member, whose name says what the edit does
abbrev pub tree_of_shape_edit : ShapeEdit → Data
tree_of_shape_edit (edits.Ins n) = one_member (codes "ins") (count_tree n)
tree_of_shape_edit (edits.Del n) = one_member (codes "del") (count_tree n)
tree_of_shape_edit (edits.MoveItem i j) = one_member (codes "move") (array_of_two (count_tree i) (count_tree j))
tree_of_shape_edit (edits.Reorder ns) = one_member (codes "reorder") (tree_of_counts ns)
tree_of_shape_edit (edits.PutKey k) = one_member (codes "put") (string k)
tree_of_shape_edit (edits.DropKey k) = one_member (codes "drop") (string k)
tree_of_shape_edit (edits.RenameKey k m) = one_member (codes "rename") (array_of_two (string k) (string m))
tree_of_shape_edit (edits.Graft q) = one_member (codes "graft") (tree_of_counts q)
tree_of_shape_edit (edits.Prune q) = one_member (codes "prune") (tree_of_counts q)
tree_of_shape_edit (edits.Shift q i j) =
    one_member (codes "shift") (three (tree_of_counts q) (count_tree i) (count_tree j))
tree_of_shape_edit (edits.Hang p q) = one_member (codes "hang") (array_of_two (tree_of_counts p) (tree_of_counts q))

abbrev mutual
  -- a primitive: an object with one member, whose name says what the primitive does
  pub tree_of_primitive : PrimitiveTree → Data
  tree_of_primitive (set v) = one_member (codes "set") (tree_of_atom v)
  tree_of_primitive (add n) = one_member (codes "add") (int_tree n)
  tree_of_primitive (splice i k s) = one_member (codes "splice") (three (count_tree i) (count_tree k) (string s))
  tree_of_primitive (at f w) = one_member (codes "at") (array_of_two (string f) (array (items_of_word w)))
  tree_of_primitive (stay t w) = one_member (codes "stay") (array_of_two (string t) (array (items_of_word w)))
  tree_of_primitive (switch a b w) = one_member (codes "switch") (three (string a) (string b) (array (items_of_word w)))
  tree_of_primitive (modify p w) = one_member (codes "mod") (array_of_two (tree_of_place p) (array (items_of_word w)))
  tree_of_primitive (shape e) = tree_of_shape_edit e

  -- an item for each primitive: its tree
  pub items_of_word : WordTree → Items
  items_of_word no_primitives = no_items
  items_of_word (more_primitives p w) = item (tree_of_primitive p) (items_of_word w)

-- a word: an array of its primitives
abbrev pub tree_of_word : WordTree → Data
tree_of_word w = array (items_of_word w)

-- ---- the word that a tree is

-- a primitive without an inner word, by what it does and by the content of its member
abbrev pub leaf_of : Kind → Data → Option PrimitiveTree
leaf_of Set d = option_map set (atom_of d)
leaf_of Add d = option_map add (int_of d)
leaf_of Splice (array (item i (item k (item s no_items)))) =
    option_and_then (λ i. option_and_then (λ k. option_map (splice i k) (as_str s)) (count_of k)) (count_of i)
leaf_of Ins d = option_map (λ n. shape (edits.Ins n)) (item_count_of d)
leaf_of Del d = option_map (λ n. shape (edits.Del n)) (item_count_of d)
leaf_of Move (array (item i (item j no_items))) =
    option_and_then (λ i. option_map (λ j. shape (edits.MoveItem i j)) (count_of j)) (count_of i)
leaf_of Reorder d = option_map (λ ns. shape (edits.Reorder ns)) (numbers_of d)
leaf_of Put d = option_map (λ k. shape (edits.PutKey k)) (as_str d)
leaf_of Drop d = option_map (λ k. shape (edits.DropKey k)) (as_str d)
leaf_of Rename (array (item k (item m no_items))) =
    option_and_then (λ k. option_map (λ m. shape (edits.RenameKey k m)) (as_str m)) (as_str k)
leaf_of Graft d = option_map (λ q. shape (edits.Graft q)) (numbers_of d)
leaf_of Prune d = option_map (λ q. shape (edits.Prune q)) (numbers_of d)
leaf_of Shift (array (item q (item i (item j no_items)))) =
    option_and_then (λ q. option_and_then (λ i. option_map (λ j. shape (edits.Shift q i j)) (count_of j)) (count_of i))
    (numbers_of q)
leaf_of Hang (array (item p (item q no_items))) =
    option_and_then (λ p. option_map (λ q. shape (edits.Hang p q)) (numbers_of q)) (numbers_of p)
leaf_of _ _ = None

-- The word that has this tree; none where no word has it.
unfoldable mutual
  -- an object with exactly one member
  pub primitive_of : Data → Option PrimitiveTree
  primitive_of (object (member k d no_members)) = option_and_then (λ kind. content_of kind d) (kind_of k)
  primitive_of _ = None

  -- a primitive, by what it does and by the content of its member: those with an inner word, and then all others
  pub content_of : Kind → Data → Option PrimitiveTree
  content_of At (array (item f (item w no_items))) =
      option_and_then (λ f. option_map (at f) (word_of_tree w)) (as_str f)
  content_of Stay (array (item t (item w no_items))) =
      option_and_then (λ t. option_map (stay t) (word_of_tree w)) (as_str t)
  content_of Switch (array (item a (item b (item w no_items)))) =
      option_and_then (λ a. option_and_then (λ b. option_map (switch a b) (word_of_tree w)) (as_str b)) (as_str a)
  content_of Mod (array (item p (item w no_items))) =
      option_and_then (λ p. option_map (modify p) (word_of_tree w)) (data_place p)
  content_of kind d = leaf_of kind d

  -- an array of primitives
  pub word_of_tree : Data → Option WordTree
  word_of_tree (array ds) = word_of_items ds
  word_of_tree _ = None

  pub word_of_items : Items → Option WordTree
  word_of_items no_items = Some no_primitives
  word_of_items (item d ds) = option_and_then (λ p. option_map (more_primitives p) (word_of_items ds)) (primitive_of d)

-- ---- insertions and deletions

-- the edit inserts or deletes from 1 to 65,536 items, or does neither
abbrev pub edit_counts_fit : ShapeEdit → Bool
edit_counts_fit (edits.Ins n) = is_count n
edit_counts_fit (edits.Del n) = is_count n
edit_counts_fit _ = true

-- every insertion and deletion in the word, inner words included, is of 1 to 65,536 items
abbrev mutual
  pub primitive_counts_fit : PrimitiveTree → Bool
  primitive_counts_fit (at f w) = counts_fit w
  primitive_counts_fit (stay t w) = counts_fit w
  primitive_counts_fit (switch a b w) = counts_fit w
  primitive_counts_fit (modify p w) = counts_fit w
  primitive_counts_fit (shape e) = edit_counts_fit e
  primitive_counts_fit _ = true

  pub counts_fit : WordTree → Bool
  counts_fit no_primitives = true
  counts_fit (more_primitives p w) = primitive_counts_fit p && counts_fit w

-- ---- the numbers of a word

-- the numbers of items that an edit inserts or deletes have a definition of their own, `counts_fit`
abbrev pub edit_numbers_fit : ShapeEdit → Bool
edit_numbers_fit (edits.MoveItem i j) = fits_u64 i && fits_u64 j
edit_numbers_fit (edits.Reorder ns) = all_fit_u64 ns
edit_numbers_fit (edits.Graft q) = all_fit_u64 q
edit_numbers_fit (edits.Prune q) = all_fit_u64 q
edit_numbers_fit (edits.Shift q i j) = all_fit_u64 q && (fits_u64 i && fits_u64 j)
edit_numbers_fit (edits.Hang p q) = all_fit_u64 p && all_fit_u64 q
edit_numbers_fit _ = true

-- every number that is set or added is an i64, and every place and number of a path a u64, as in a word of the program
abbrev mutual
  pub primitive_numbers_fit : PrimitiveTree → Bool
  primitive_numbers_fit (set v) = atom_fits v
  primitive_numbers_fit (add n) = fits_i64 n
  primitive_numbers_fit (splice i k s) = fits_u64 i && fits_u64 k
  primitive_numbers_fit (at f w) = numbers_fit w
  primitive_numbers_fit (stay t w) = numbers_fit w
  primitive_numbers_fit (switch a b w) = numbers_fit w
  primitive_numbers_fit (modify p w) = place_fits p && numbers_fit w
  primitive_numbers_fit (shape e) = edit_numbers_fit e

  pub numbers_fit : WordTree → Bool
  numbers_fit no_primitives = true
  numbers_fit (more_primitives p w) = primitive_numbers_fit p && numbers_fit w
