use Rattle.std.proofs.Common.{◌≡◌}
use Rattle.shared_lists.specs.Items.{items_of}
use Rattle.shared_lists.proofs.splices.owned.Given as goal

abbrev pub invariant-loop-item : goal.invariant-loop-item
invariant-loop-item g l = items_of l.owners.items ≡ l.yielded
