use Rattle.depth_seq.specs.Trees.{height}
use Rattle.depth_seq.proofs.walks.+chunk_from.Given as goal

abbrev pub decreases-chunk_from : goal.decreases-chunk_from
decreases-chunk_from g l = height l.tree.now
