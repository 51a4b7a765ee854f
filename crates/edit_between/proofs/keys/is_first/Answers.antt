use Rattle.std.proofs.Common.{◌<◌, length, ◌∙◌, arith}
use Rattle.hold_shapes.proofs.SharedItems.{item-at}
use Rattle.edit_between.proofs.KeySteps.{first-at}
use Rattle.edit_between.proofs.keys.is_first.Goals as goal

pub returns : goal.returns
returns c =
    let keys = c.args.keys.now in
    let m = c.get.result.now in
    let within : c.args.place < length keys = omega (arith, c.len.ensures, c.if-place-len.false) in
    c.is_same.ensures.test ∙ first-at c.args.key.now keys c.args.place m within (item-at keys c.args.place m m c.get.ensures)
