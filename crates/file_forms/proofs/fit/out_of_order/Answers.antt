use Rattle.std.proofs.Common.{◌≤◌, ◌+◌, ◌-◌, length, sym, ◌∙◌, arith}
use Rattle.file_forms.proofs.FieldOrders.{order-end}
use Rattle.file_forms.proofs.fit.out_of_order.Goals as goal

pub returns : goal.returns
returns c =
    let past : length c.args.fields.now ≤ c.loop-i.i - 1 + 1 = omega arith in
    sym (order-end c.args.fields.now (c.loop-i.i - 1) past) ∙ c.loop-i.invariant
