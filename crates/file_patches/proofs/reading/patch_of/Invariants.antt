use Rattle.std.proofs.Common.{◌≡◌, ◌++◌, drop}
use Rattle.file_trees.specs.FileTrees.{items_view}
use Rattle.file_patches.specs.Operations.{patch_view}
use Rattle.file_patches.specs.Reading.{operations_from}
use Rattle.file_patches.specs.Results.{on_ok}
use Rattle.file_patches.proofs.reading.patch_of.Given as goal

abbrev pub invariant-loop-i : goal.invariant-loop-i
invariant-loop-i l =
    on_ok (λ os. patch_view l.patch.items ++ os) (operations_from l.i (items_view (drop l.i l.items.items))) ≡ operations_from 0 (items_view l.items.items)
