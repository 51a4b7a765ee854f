use Rattle.std.proofs.Common.{◌≡◌, ◌++◌, take}
use Rattle.shared_lists.specs.Items.{items_of}
use Rattle.shared_lists.proofs.tree.share.Given as goal

abbrev pub invariant-loop-item : goal.invariant-loop-item
invariant-loop-item g l = items_of l.into.items ≡ items_of l.initial.into.items ++ items_of (take l.item-index l.items)
