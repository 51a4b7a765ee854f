use Rattle.tag_seq.specs.Trees.{height}
use Rattle.tag_seq.proofs.walks.+tag_at.Given as goal

abbrev pub decreases-tag_at : goal.decreases-tag_at
decreases-tag_at g l = height l.tree.now
