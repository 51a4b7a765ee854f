use Rattle.std.proofs.Common.{[], length, refl, arith}
use Rattle.edit_inverse.proofs.Orders.{below, placed-next, placed-all}
use Rattle.edit_inverse.proofs.old_shapes.inverse_order.Goals as goal

pub index_mut-requires : goal.index_mut-requires
index_mut-requires c =
    let f = c.args.order.now in
    let l = c.loop-j in
    let b = below (length f) [] f l.j c.requires (omega (arith, c.loop-j-test.true)) in
    let many = l.invariant.0 in
    omega (arith, b, many)

pub loop-j-preserved : goal.loop-j-preserved
loop-j-preserved c =
    let f = c.args.order.now in
    let l = c.loop-j in
    placed-next f l.back.items _ l.j c.requires (omega (arith, c.loop-j-test.true)) l.invariant refl

pub returns : goal.returns
returns c =
    let f = c.args.order.now in
    let l = c.loop-j in
    placed-all f l.back.items l.j c.requires l.invariant (omega (arith, c.loop-j-test.false))
