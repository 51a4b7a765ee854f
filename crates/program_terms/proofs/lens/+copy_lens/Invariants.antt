use Rattle.std.proofs.Common.{◌≡◌, map, take}
use Rattle.program_terms.specs.Views.{row_tree, arm_tree}
use Rattle.program_terms.proofs.lens.+copy_lens.Given as goal

abbrev pub invariant-copy_arms-loop-arm : goal.invariant-copy_arms-loop-arm
invariant-copy_arms-loop-arm l = map arm_tree l.items.items ≡ map arm_tree (take l.arm-index l.arm-items)

abbrev pub invariant-copy_rows-loop-row : goal.invariant-copy_rows-loop-row
invariant-copy_rows-loop-row l = map row_tree l.items.items ≡ map row_tree (take l.row-index l.row-items)
