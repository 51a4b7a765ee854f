use Rattle.json.specs.Tree.{HasNumbers}
use Rattle.file_trees.specs.FileTrees.{file_tree}
use Rattle.file_patches.specs.Operations.{patch_view}
use Rattle.file_patches.proofs.Made.{if_made}
use Rattle.file_patches.proofs.KeptDepth.{Within, patched_shallow}
use Rattle.file_patches.proofs.KeptNumbers.{patched_numbers}
use Rattle.file_patches.proofs.patching.patched.Goals as goal

pub returns-clause-numbers : goal.returns-clause-numbers
returns-clause-numbers c = λ n m.
    if_made HasNumbers file_tree c.made.result _ c.made.ensures (patched_numbers 0 (patch_view c.args.patch.now) (file_tree c.args.tree.now) m n)

pub returns-clause-nests : goal.returns-clause-nests
returns-clause-nests c = λ n.
    if_made (Within 128) file_tree c.made.result _ c.made.ensures (patched_shallow 0 (patch_view c.args.patch.now) (file_tree c.args.tree.now) n)
