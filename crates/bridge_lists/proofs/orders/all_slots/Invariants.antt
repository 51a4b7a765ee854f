use Rattle.std.proofs.Common.{◌≡◌, ◌≤◌, ◌-◌, ◌++◌, drop, length}
use Rattle.bridge_lists.specs.Carried.{slots}
use Rattle.bridge_lists.proofs.orders.all_slots.Given as goal

abbrev pub invariant-loop-y : goal.invariant-loop-y
invariant-loop-y l = record {
  value : l.order.items ++ slots l.mine l.y (length l.is_mine - l.y) (drop l.next l.mine) ≡ slots l.mine 0 (length l.is_mine) l.mine;
  near : l.next ≤ l.y;
}
