-- The tree that contracts see the tree of a file as: the kit's `Json`, in which a number is its text and the members of
-- an object keep their order. `file_tree`, at the end, has the tree of a `FileTree`.
use Rattle.std.specs.Prelude.{ℕ, List, [], ◌∷◌, map}
use Rattle.json.specs.Json.{Json, null, boolean, number, string, array, object, Items, Members}
use Rattle.json.specs.Json.{no_members, member}
use Rattle.json.specs.Value.{items_of}
use Rattle.file_trees.specs.declared.tree.FileTree.{FileTree, fold-FileTree}
use Rattle.file_trees.specs.declared.tree.FileTree.TheOpen.{FileTree-F}

-- a list of names with trees as the members of an object
abbrev pub members_of : List (List ℕ × Json) → Members
members_of [] = no_members
members_of (m ∷ ms) = member m.0 m.1 (members_of ms)

-- one level, with each tree inside already seen as its `Json`
abbrev pub tree_step : FileTree-F Json → Json
tree_step FileTree-F.Null = null
tree_step (FileTree-F.Bool b) = boolean b
tree_step (FileTree-F.Number s) = number s
tree_step (FileTree-F.Text s) = string s
tree_step (FileTree-F.Array v) = array (items_of v.items)
tree_step (FileTree-F.Object v) = object (members_of v.items)

abbrev pub file_tree : FileTree → Json
file_tree = fold-FileTree Json tree_step

abbrev pub items_view : List FileTree → Items
items_view ts = items_of (map file_tree ts)

abbrev pub members_view : List (List ℕ × FileTree) → Members
members_view ms = members_of (map (λ m. (m.0, file_tree m.1)) ms)
