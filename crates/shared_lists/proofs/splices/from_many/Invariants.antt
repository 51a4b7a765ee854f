use Rattle.std.proofs.Common.{◌≡◌, ◌++◌}
use Rattle.shared_lists.specs.Items.{items_of, all_items}
use Rattle.shared_lists.proofs.splices.from_many.Given as goal

abbrev pub invariant-loop-item : goal.invariant-loop-item
invariant-loop-item g l = all_items l.trees.items ++ items_of l.owners.items ≡ l.yielded
