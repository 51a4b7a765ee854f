use Rattle.std.proofs.Common.{◌≡◌, drop}
use Rattle.bridge_lists.specs.Carried.{is_range}
use Rattle.bridge_lists.proofs.orders.is_in_order.Given as goal

abbrev pub invariant-loop-i : goal.invariant-loop-i
invariant-loop-i l = is_range l.i (drop l.i l.places) ≡ is_range 0 l.places
