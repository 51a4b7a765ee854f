use Rattle.depth_seq.specs.Trees.{height}
use Rattle.depth_seq.proofs.walks.+find.Given as goal

abbrev pub decreases-find : goal.decreases-find
decreases-find g l = height l.tree.now
