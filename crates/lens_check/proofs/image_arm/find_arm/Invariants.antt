use Rattle.std.proofs.Common.{◌≡◌, map, drop}
use Rattle.lens_forms.specs.Forms.{form_arms_of, arm_tree}
use Rattle.lens_check.specs.ImageParts.{first_arm}
use Rattle.lens_check.proofs.image_arm.find_arm.Given as goal

abbrev pub invariant-loop-arm : goal.invariant-loop-arm
invariant-loop-arm l = first_arm (form_arms_of (map arm_tree (drop l.arm-index l.arm-items))) l.tag ≡ first_arm (form_arms_of (map arm_tree l.arm-items)) l.tag
