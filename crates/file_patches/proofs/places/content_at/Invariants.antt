use Rattle.std.proofs.Common.{◌≡◌, drop}
use Rattle.file_trees.specs.FileTrees.{file_tree}
use Rattle.file_patches.specs.Places.{content_at}
use Rattle.file_patches.proofs.places.content_at.Given as goal

abbrev pub invariant-loop-part : goal.invariant-loop-part
invariant-loop-part l = content_at (drop l.part-index l.place) (file_tree l.content) ≡ content_at l.place (file_tree l.tree)
