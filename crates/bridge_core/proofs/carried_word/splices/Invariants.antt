use Rattle.std.proofs.Common.{◌≡◌, map}
use Rattle.edit_module.specs.Views.{primitive_tree}
use Rattle.bridge_core.specs.Carried.{splice_of}
use Rattle.bridge_core.proofs.carried_word.splices.Given as goal

abbrev pub invariant-loop-piece : goal.invariant-loop-piece
invariant-loop-piece l = map primitive_tree l.out.items ≡ map splice_of l.yielded
