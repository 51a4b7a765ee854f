use Rattle.edit_inverse.proofs.Orders.{Placed}
use Rattle.edit_inverse.proofs.old_shapes.inverse_order.Given as goal

abbrev pub invariant-loop-j : goal.invariant-loop-j
invariant-loop-j l = Placed l.order l.back.items l.j
