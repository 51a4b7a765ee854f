use Rattle.std.proofs.Common.{◌≡◌, map, take}
use Rattle.json.specs.Value.{value_view}
use Rattle.file_trees.specs.FileTrees.{file_tree}
use Rattle.file_trees.proofs.Owned.{named, seen}
use Rattle.file_trees.proofs.lend.+lend.Given as goal

abbrev pub invariant-lend_array-loop-item : goal.invariant-lend_array-loop-item
invariant-lend_array-loop-item l = map value_view l.lent.items ≡ map file_tree (take l.item-index l.item-items)

abbrev pub invariant-lend_object-loop-member : goal.invariant-lend_object-loop-member
invariant-lend_object-loop-member l = map seen l.lent.items ≡ map named (take l.member-index l.member-items)
