use Rattle.std.proofs.Common.{◌<◌, length, arith}
use Rattle.file_patches.proofs.Lists.{array_count, object_count, array_child, object_child}
use Rattle.file_patches.proofs.places.child.Goals as goal

pub index-requires : goal.index-requires
index-requires c =
    let v = c.in-Array.items in
    omega (arith, c.requires, array_count c.args.tree.now v c.in-Array.is, v.ok.0)

pub index-requires-in-Object : goal.index-requires-in-Object
index-requires-in-Object c =
    let v = c.in-Object.members in
    omega (arith, c.requires, object_count c.args.tree.now v c.in-Object.is, v.ok.0)

pub returns-in-Array : goal.returns-in-Array
returns-in-Array c =
    let v = c.in-Array.items in
    let within : c.args.at < length v.items = omega (arith, c.requires, array_count c.args.tree.now v c.in-Array.is) in
    array_child c.args.tree.now v c.args.at c.index.result.now c.in-Array.is within c.index.ensures

pub returns-in-Object : goal.returns-in-Object
returns-in-Object c =
    let v = c.in-Object.members in
    let within : c.args.at < length v.items = omega (arith, c.requires, object_count c.args.tree.now v c.in-Object.is) in
    object_child c.args.tree.now v c.args.at c.index-in-Object.result.now c.in-Object.is within c.index-in-Object.ensures
