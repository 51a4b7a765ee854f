use Rattle.std.proofs.Common.{◌≤◌, length, sym, ◌∙◌, arith}
use Rattle.std.proofs.lemmas.List.{take_all}
use Rattle.edit_between.proofs.BetweenLoops.{same-names}
use Rattle.edit_between.proofs.nodes.are_same.Goals as goal

pub returns : goal.returns
returns c =
    let xs = c.args.depths.now in
    let ys = c.args.others.now in
    let i = c.loop-i.i in
    let a : length xs ≤ i = omega (arith, c.len-i-end.ensures, c.loop-i-test.false) in
    let b : length ys ≤ i = omega (arith, c.len-i-end.ensures, c.loop-i-test.false, c.if-len.false, c.len.ensures, c.len-2.ensures) in
    same-names xs ys (sym (take_all i xs a) ∙ (c.loop-i.invariant ∙ take_all i ys b))
