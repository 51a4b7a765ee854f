use Rattle.std.proofs.Common.{◌<◌, ◌≤◌, ◌+◌, false, length, get_or, arith}
use Rattle.bridge_lists.specs.Carried.{slots}
use Rattle.bridge_lists.proofs.OrderSteps.{slots-next}
use Rattle.bridge_lists.proofs.orders.all_slots.Goals as goal

pub loop-y-preserved : goal.loop-y-preserved
loop-y-preserved c =
    let mine = c.args.mine.now in
    let marks = c.args.is_mine.now in
    let n = length marks in
    let l = c.loop-y in
    let p : l.y < n = omega (arith, c.loop-y-test.true) in
    record {
      value = slots-next mine l.order.items c.push_slot.new.order.items (slots mine 0 n mine) (get_or marks l.y false) l.y n l.next c.in_ok-next.next p (c.requires l.y p)
          c.in_ok-next.ensures.pushed c.in_ok-next.ensures.left l.invariant.value;
      near = c.in_ok-next.ensures.near;
    }
