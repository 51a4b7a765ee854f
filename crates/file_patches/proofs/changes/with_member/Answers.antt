use Rattle.std.proofs.Common.{refl, arith}
use Rattle.file_trees.specs.declared.tree.FileTree.{Object}
use Rattle.file_patches.proofs.Lists.{object_count}
use Rattle.file_patches.proofs.changes.with_member.Goals as goal

pub with_content-requires : goal.with_content-requires
with_content-requires c =
    let v = c.args.members in
    omega (arith, c.in-Some.ensures.within, object_count (Object v) v refl)
