use Rattle.std.proofs.Common.{◌+◌, ◌*◌}
use Rattle.case_layers.proofs.type_trees.+ty.Given as goal

abbrev pub decreases-ty_within : goal.decreases-ty_within
decreases-ty_within l = 4 * l.levels

abbrev pub decreases-field_within : goal.decreases-field_within
decreases-field_within l = 4 * l.levels + 1

abbrev pub decreases-fields_within : goal.decreases-fields_within
decreases-fields_within l = 4 * l.levels + 2

abbrev pub decreases-container_ty : goal.decreases-container_ty
decreases-container_ty l = 4 * l.levels + 2

abbrev pub decreases-built_ty : goal.decreases-built_ty
decreases-built_ty l = 4 * l.levels + 3
