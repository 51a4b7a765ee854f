use Rattle.lens_flat.proofs.InsideNodes.{start_here}
use Rattle.lens_flat.proofs.node.missing_at.Goals as goal

pub returns : goal.returns
returns c = start_here c.args.table.now c.args.number c.index-table-number.result c.requires c.index-table-number.is
