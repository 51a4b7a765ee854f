use Rattle.std.proofs.Common.{◌≡◌, map, take}
use Rattle.lens_forms.specs.Forms.{arm_tree, row_tree}
use Rattle.lens_forms.proofs.form.+copy_form.Given as goal

abbrev pub invariant-copy_rows-loop-row : goal.invariant-copy_rows-loop-row
invariant-copy_rows-loop-row l = map row_tree l.items.items ≡ map row_tree (take l.row-index l.row-items)

abbrev pub invariant-copy_arms-loop-arm : goal.invariant-copy_arms-loop-arm
invariant-copy_arms-loop-arm l = map arm_tree l.items.items ≡ map arm_tree (take l.arm-index l.arm-items)
