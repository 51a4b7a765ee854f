use Rattle.std.proofs.Common.{◌≡◌, map}
use Rattle.edit_module.specs.Views.{primitive_tree}
use Rattle.edit_module.specs.Words.{shape}
use Rattle.bridge_core.proofs.list_carrying.shapes.Given as goal

abbrev pub invariant-loop-edit : goal.invariant-loop-edit
invariant-loop-edit l = map primitive_tree l.out.items ≡ map shape l.yielded
