use Rattle.file_trees.specs.FileTrees.{file_tree}
use Rattle.file_patches.specs.Kept.{PatchHasNumbers}
use Rattle.file_patches.specs.Operations.{patch_view}
use Rattle.file_patches.proofs.Made.{if_made}
use Rattle.file_patches.proofs.ReadNumbers.{patch_numbers}
use Rattle.file_patches.proofs.reading.read_patch.Goals as goal

pub returns-clause-numbers : goal.returns-clause-numbers
returns-clause-numbers c = λ n.
    if_made PatchHasNumbers (λ patch. patch_view patch.items) c.patch_of.result _ c.patch_of.ensures (patch_numbers (file_tree c.args.tree.now) n)
