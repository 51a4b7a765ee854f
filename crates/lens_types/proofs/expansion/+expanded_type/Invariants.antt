use Rattle.std.proofs.Common.{◌≡◌, ◌+◌, ◌++◌, map, take, drop}
use Rattle.doc_values.specs.Types.{field_list, field_tree as ty_field}
use Rattle.program_terms.specs.Terms.{term_fields_of}
use Rattle.program_terms.specs.Views.{field_tree, fields_tree, type_tree}
use Rattle.lens_types.specs.Sizes.{fields_size, type_size}
use Rattle.lens_types.specs.Earlier.{expanded_fields}
use Rattle.lens_types.specs.Entries.{earlier_tree, weight_before}
use Rattle.lens_types.proofs.expansion.+expanded_type.Given as goal

abbrev pub invariant-expanded_fields-loop-field : goal.invariant-expanded_fields-loop-field
invariant-expanded_fields-loop-field l =
    map ty_field l.items.items ++ field_list (expanded_fields (take l.scope (earlier_tree l.earlier)) (term_fields_of (map field_tree (drop l.field-index l.field-items))))
    ≡ field_list (expanded_fields (take l.scope (earlier_tree l.earlier)) (term_fields_of (map field_tree l.field-items)))

abbrev pub decreases-expanded_type : goal.decreases-expanded_type
decreases-expanded_type l = weight_before l.scope l.earlier.now + type_size (type_tree l.ty.now)

abbrev pub decreases-expanded_fields : goal.decreases-expanded_fields
decreases-expanded_fields l = weight_before l.scope l.earlier.now + fields_size (fields_tree l.fields.now)
