use Rattle.std.proofs.Common.{arith}
use Rattle.file_patches.proofs.Lists.{array_count, object_count}
use Rattle.file_patches.proofs.changes.exchange.Goals as goal

pub exchange_content-before-requires : goal.exchange_content-before-requires
exchange_content-before-requires c =
    let v = c.in-Object.members in
    omega (arith, c.requires, object_count c.args.tree v c.in-Object.is, v.ok.0)

pub exchange_item-before-requires : goal.exchange_item-before-requires
exchange_item-before-requires c =
    let v = c.in-Array.items in
    omega (arith, c.requires, array_count c.args.tree v c.in-Array.is, v.ok.0)
