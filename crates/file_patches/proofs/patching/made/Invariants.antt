use Rattle.std.proofs.Common.{◌≡◌, drop}
use Rattle.file_trees.specs.FileTrees.{file_tree}
use Rattle.file_patches.specs.Operations.{patch_view}
use Rattle.file_patches.specs.Patching.{patched_from, patched}
use Rattle.file_patches.proofs.patching.made.Given as goal

abbrev pub invariant-loop-i : goal.invariant-loop-i
invariant-loop-i l = patched_from l.i (patch_view (drop l.i l.patch)) (file_tree l.current) ≡ patched (patch_view l.patch) (file_tree l.tree)
