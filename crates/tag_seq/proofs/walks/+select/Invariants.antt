use Rattle.tag_seq.specs.Trees.{height}
use Rattle.tag_seq.proofs.walks.+select.Given as goal

abbrev pub decreases-select : goal.decreases-select
decreases-select g l = height l.tree.now
