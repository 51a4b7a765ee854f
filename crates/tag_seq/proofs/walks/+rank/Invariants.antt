use Rattle.tag_seq.specs.Trees.{height}
use Rattle.tag_seq.proofs.walks.+rank.Given as goal

abbrev pub decreases-rank : goal.decreases-rank
decreases-rank g l = height l.tree.now
