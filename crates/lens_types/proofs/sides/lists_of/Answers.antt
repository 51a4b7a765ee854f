use Rattle.std.proofs.Common.{arith}
use Rattle.lens_types.proofs.Lists.{lists_done}
use Rattle.lens_types.proofs.sides.lists_of.Goals as goal

pub returns : goal.returns
returns c = lists_done c.args.fields.now c.loop-field.lists.items c.loop-field.field-index (omega arith) c.loop-field.invariant
