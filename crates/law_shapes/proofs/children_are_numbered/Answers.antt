use Rattle.hold_shapes.proofs.Nodes.{child-numbered}
use Rattle.law_shapes.proofs.children_are_numbered.Goals as goal

pub returns : goal.returns
returns c = child-numbered c.args._tree.now c.args._place c.args._number
