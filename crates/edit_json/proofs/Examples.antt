-- The definitions on small cases.
use Rattle.std.proofs.Common.{◌≡◌, pos, negsuc, true, false, [], ◌∷◌, Some, None, codes, refl}
use Rattle.hold_shapes.specs.declared.edit.Place.TheVariants.{Index, Key, Node}
use Rattle.hold_shapes.specs.declared.edit.ShapeEdit.TheVariants.{Ins, Del, MoveItem, RenameKey, Shift}
use Rattle.edit_module.specs.declared.atom.Atom.TheVariants.{Truth}
use Rattle.serde_json.specs.Data.{boolean, string, array, object, no_items, item, no_members, member}
use Rattle.edit_module.specs.Words.{set, add, splice, at, switch, modify, shape, no_primitives, more_primitives}
use Rattle.value_json.specs.Numbers.{count_tree, int_tree}
use Rattle.edit_json.specs.WordJson.{three, tree_of_word, word_of_tree, primitive_of, counts_fit, numbers_fit}
use Rattle.value_json.specs.SmallTrees.{one_member, array_of_two}
use Rattle.edit_json.specs.Depths.{word_depth}

-- [{"at":["a",[{"set":true}]]}]
nested : word_of_tree (array (item (one_member (codes "at") (array_of_two (string (codes "a")) (array (item (one_member (codes "set") (boolean true)) no_items)))) no_items))
    ≡ Some (more_primitives (at (codes "a") (more_primitives (set (Truth true)) no_primitives)) no_primitives)
unfolding primitive_of
nested = refl

-- a place is an index, a key or a path by the sort of its tree: [{"mod":[3,[]]}], [{"mod":["3",[]]}], [{"mod":[[3],[]]}]
at_index : primitive_of (one_member (codes "mod") (array_of_two (count_tree 3) (array no_items))) ≡ Some (modify (Index 3) no_primitives)
unfolding primitive_of
at_index = refl

at_key : primitive_of (one_member (codes "mod") (array_of_two (string (codes "3")) (array no_items))) ≡ Some (modify (Key (codes "3")) no_primitives)
unfolding primitive_of
at_key = refl

at_node : primitive_of (one_member (codes "mod") (array_of_two (array (item (count_tree 3) no_items)) (array no_items))) ≡ Some (modify (Node (3 ∷ [])) no_primitives)
unfolding primitive_of
at_node = refl

-- {"add":1,"set":true} has two members, and a primitive has one
two_members : primitive_of (object (member (codes "add") (count_tree 1) (member (codes "set") (boolean true) no_members))) ≡ None
unfolding primitive_of
two_members = refl

-- {"move":[4,0,1]} has a number too many, and {"move":[4]} one too few
too_many : primitive_of (one_member (codes "move") (three (count_tree 4) (count_tree 0) (count_tree 1))) ≡ None
unfolding primitive_of
too_many = refl

too_few : primitive_of (one_member (codes "move") (array (item (count_tree 4) no_items))) ≡ None
unfolding primitive_of
too_few = refl

-- {"ins":65536} is the largest insertion, and {"ins":65537} and {"del":0} are none
largest : primitive_of (one_member (codes "ins") (count_tree 65536)) ≡ Some (shape (Ins 65536))
unfolding primitive_of
largest = refl

too_large : primitive_of (one_member (codes "ins") (count_tree 65537)) ≡ None
unfolding primitive_of
too_large = refl

too_small : primitive_of (one_member (codes "del") (count_tree 0)) ≡ None
unfolding primitive_of
too_small = refl

-- {"splice":[0,-1,"s"]}: a count is not below zero
below_zero : primitive_of (one_member (codes "splice") (three (count_tree 0) (int_tree (negsuc 0)) (string (codes "s")))) ≡ None
unfolding primitive_of
below_zero = refl

-- a word of two primitives, and its tree: [{"shift":[[1],2,0]},{"rename":["k","m"]}]
written : tree_of_word (more_primitives (shape (Shift (1 ∷ []) 2 0)) (more_primitives (shape (RenameKey (codes "k") (codes "m"))) no_primitives))
    ≡ array (item (one_member (codes "shift") (three (array (item (count_tree 1) no_items)) (count_tree 2) (count_tree 0))) (item (one_member (codes "rename") (array_of_two (string (codes "k")) (string (codes "m")))) no_items))
written = refl

-- a word with an insertion of nothing has no tree, wherever the insertion stands
nothing_inside : counts_fit (more_primitives (add (pos 1)) (more_primitives (switch (codes "p") (codes "o") (more_primitives (shape (Ins 0)) no_primitives)) no_primitives)) ≡ false
nothing_inside = refl

-- 18446744073709551616 is above every u64
above : numbers_fit (more_primitives (splice 18446744073709551616 0 []) no_primitives) ≡ false
above = refl

-- two words inside one another
two_levels : word_depth (more_primitives (shape (Del 1)) (more_primitives (modify (Index 0) (more_primitives (shape (MoveItem 0 1)) no_primitives)) no_primitives)) ≡ 2
two_levels = refl
