use Rattle.std.proofs.Common.{◌≡◌, ◌++◌, map, drop}
use Rattle.program_terms.specs.Terms.{term_arms_of}
use Rattle.program_terms.specs.Views.{arm_tree}
use Rattle.lens_types.specs.Repeats.{sided, arm_names}
use Rattle.lens_types.proofs.names.arm_names.Given as goal

abbrev pub invariant-loop-arm : goal.invariant-loop-arm
invariant-loop-arm l =
    map sided l.names.items ++ arm_names (term_arms_of (map arm_tree (drop l.arm-index l.arms))) ≡ arm_names (term_arms_of (map arm_tree l.arms))
