use Rattle.depth_seq.proofs.Heights.{short_fits}
use Rattle.depth_seq.proofs.node.DepthTree.height.Goals as goal

pub returns-in-Node-clause-bound : goal.returns-in-Node-clause-bound
returns-in-Node-clause-bound c = short_fits _ _ c.behind-node.invariant.short c.behind-node.invariant.small
