use Rattle.depth_seq.specs.Trees.{height}
use Rattle.depth_seq.proofs.walks.+find_from.Given as goal

abbrev pub decreases-find_from : goal.decreases-find_from
decreases-find_from g l = height l.tree.now
