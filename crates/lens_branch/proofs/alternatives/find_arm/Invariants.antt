use Rattle.std.proofs.Common.{◌≡◌, map}
use Rattle.lens_forms.specs.Forms.{form_arms_of, arm_tree}
use Rattle.lens_branch.specs.AlternativeSteps.{arm_of}
use Rattle.lens_branch.proofs.ArmSearch.{found_from}
use Rattle.lens_branch.proofs.alternatives.find_arm.Given as goal

abbrev pub invariant-loop-number : goal.invariant-loop-number
invariant-loop-number l = found_from l.items l.side l.tag l.number ≡ arm_of (form_arms_of (map arm_tree l.items)) l.side l.tag
