use Rattle.std.proofs.Common.{◌≡◌, length}
use Rattle.bridge_lists.proofs.OrderSteps.{AreMarked}
use Rattle.bridge_lists.proofs.orders.marked.Given as goal

abbrev pub invariant-loop-i : goal.invariant-loop-i
invariant-loop-i l = record {
  size : length l.marks.items ≡ l.size;
  marks : AreMarked l.size l.marks.items l.i l.places;
}
