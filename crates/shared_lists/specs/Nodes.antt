-- The nodes of a tree: `node_items` are the items below a node, in order, and `IsSound` is what holds of each node.
use Rattle.std.specs.Prelude.{◌≡◌, ◌<◌, List, ◌++◌, length}
use Rattle.shared_lists.specs.declared.tree.Node.{Node}
use Rattle.shared_lists.specs.declared.tree.Node.TheVariants.{Chunk, Join}
use Rattle.shared_lists.specs.Items.{items_of}

abbrev pub node_items : {T : Type 0} → Node T → List T
node_items (Chunk items) = items_of items.items
node_items (Join left right middle len height hint) = left.value ++ right.value

-- a chunk has an item, the numbers of items are right, and neither side is empty
abbrev pub IsSound : {T : Type 0} → Node T → Type 0
IsSound (Chunk items) = 0 < length items.items
IsSound (Join left right middle len height hint) = (middle ≡ length left.value)
    × ((len ≡ length (left.value ++ right.value)) × ((0 < length left.value) × (0 < length right.value)))
