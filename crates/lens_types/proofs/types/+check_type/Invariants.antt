use Rattle.std.proofs.Common.{◌≡◌, map, drop}
use Rattle.program_terms.specs.Terms.{term_fields_of}
use Rattle.program_terms.specs.Views.{field_tree, fields_tree, type_tree}
use Rattle.lens_types.specs.Sizes.{fields_size, type_size}
use Rattle.lens_types.specs.Checking.{fields_failure}
use Rattle.lens_types.proofs.types.+check_type.Given as goal

abbrev pub invariant-check_fields-loop-field : goal.invariant-check_fields-loop-field
invariant-check_fields-loop-field l =
    fields_failure (term_fields_of (map field_tree (drop l.field-index l.field-items))) ≡ fields_failure (term_fields_of (map field_tree l.field-items))

abbrev pub decreases-check_type : goal.decreases-check_type
decreases-check_type l = type_size (type_tree l.ty.now)

abbrev pub decreases-check_fields : goal.decreases-check_fields
decreases-check_fields l = fields_size (fields_tree l.fields.now)
