use Rattle.std.proofs.Common.{◌≡◌, map, take}
use Rattle.lens_core.specs.Complements.{comp_tree}
use Rattle.lens_steps.proofs.ArmStarts.{start_of}
use Rattle.lens_steps.proofs.starts.arm_starts.Given as goal

abbrev pub invariant-loop-arm : goal.invariant-loop-arm
invariant-loop-arm l = map comp_tree l.items.items ≡ map start_of (take l.arm-index l.arm-items)
