use Rattle.hold_shapes.proofs.NameEdges.{edge_is_rank}
use Rattle.hold_shapes.proofs.keys.rank.Goals as goal

pub returns-clause-value : goal.returns-clause-value
returns-clause-value c = edge_is_rank c.args.name.now c.args.names.now c.edge.result c.requires c.edge.ensures.within c.edge.ensures.passes c.edge.ensures.fails
