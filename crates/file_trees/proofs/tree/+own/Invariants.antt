use Rattle.std.proofs.Common.{◌≡◌, map, take}
use Rattle.json.specs.Value.{value_view}
use Rattle.file_trees.specs.FileTrees.{file_tree}
use Rattle.file_trees.proofs.Owned.{named, seen}
use Rattle.file_trees.proofs.tree.+own.Given as goal

abbrev pub invariant-own_array-loop-item : goal.invariant-own_array-loop-item
invariant-own_array-loop-item l = map file_tree l.owned.items ≡ map value_view (take l.item-index l.item-items)

abbrev pub invariant-own_object-loop-member : goal.invariant-own_object-loop-member
invariant-own_object-loop-member l = map named l.owned.items ≡ map seen (take l.member-index l.member-items)
