use Rattle.lens_flat.proofs.InsideNodes.{node_here}
use Rattle.lens_flat.proofs.node.node_at.Goals as goal

pub returns : goal.returns
returns c = node_here c.args.table.now c.args.number c.index-table-number.result c.requires c.index-table-number.is
