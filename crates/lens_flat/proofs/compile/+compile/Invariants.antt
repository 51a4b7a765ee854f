use Rattle.std.proofs.Common.{◌+◌, ◌*◌}
use Rattle.lens_forms.specs.Forms.{form_tree, rows_tree, arms_tree}
use Rattle.lens_forms.specs.Measures.{form_parts, rows_parts, arms_parts}
use Rattle.lens_flat.proofs.LensesInside.{Going, lenses_to, arm_forms_to}
use Rattle.lens_flat.proofs.compile.+compile.Given as goal

abbrev pub decreases-compile_form : goal.decreases-compile_form
decreases-compile_form l = 4 * form_parts (form_tree l.form.now) + 2

abbrev pub decreases-node_of : goal.decreases-node_of
decreases-node_of l = 4 * form_parts (form_tree l.form.now) + 1

abbrev pub decreases-record_of : goal.decreases-record_of
decreases-record_of l = 4 * rows_parts (rows_tree l.rows.now) + 4

abbrev pub decreases-row_nodes : goal.decreases-row_nodes
decreases-row_nodes l = 4 * rows_parts (rows_tree l.rows.now) + 3

abbrev pub decreases-alternatives_of : goal.decreases-alternatives_of
decreases-alternatives_of l = 4 * arms_parts (arms_tree l.arms.now) + 4

abbrev pub decreases-arm_nodes : goal.decreases-arm_nodes
decreases-arm_nodes l = 4 * arms_parts (arms_tree l.arms.now) + 3

abbrev pub invariant-row_nodes-loop-row : goal.invariant-row_nodes-loop-row
invariant-row_nodes-loop-row l = Going l.fn.table.items l.table.items l.inside.items (lenses_to l.row-items l.row-index)

abbrev pub invariant-arm_nodes-loop-arm : goal.invariant-arm_nodes-loop-arm
invariant-arm_nodes-loop-arm l = Going l.fn.table.items l.table.items l.inside.items (arm_forms_to l.arm-items l.arm-index)
