use Rattle.std.proofs.Common.{length}
use Rattle.bridge_lists.specs.Carried.{carried}
use Rattle.bridge_core.specs.Bridges.{bridges_tree}
use Rattle.bridge_core.proofs.list_carrying.reshaped.Goals as goal

pub returns-in-Err : goal.returns-in-Err
returns-in-Err c =
    let links = c.args.links.now in
    c.refusal.ensures (length links.0) c.args.edit.now (carried c.args.edit.now links.1 links.0) (bridges_tree c.args.bridges.now) c.in-Err.ensures.refused
