use Rattle.std.proofs.Common.{◌≡◌}
use Rattle.lens_forms.specs.Forms.{arms_tree}
use Rattle.complement_file.specs.ComplementJson.{arm_with}
use Rattle.complement_file.proofs.Arms.{found_from}
use Rattle.complement_file.proofs.lookup.find_arm.Given as goal

abbrev pub invariant-loop-arm : goal.invariant-loop-arm
invariant-loop-arm l = found_from l.arm-items l.tag l.arm-index ≡ arm_with (arms_tree l.arms) l.tag
