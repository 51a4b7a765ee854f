use Rattle.std.proofs.Common.{◌≡◌, map, drop}
use Rattle.std.specs.Prelude.{max}
use Rattle.doc_values.specs.Types.{highest}
use Rattle.program_terms.specs.Terms.{term_fields_of}
use Rattle.program_terms.specs.Views.{field_tree, fields_tree, type_tree}
use Rattle.lens_types.specs.Sizes.{fields_size, type_size}
use Rattle.lens_types.specs.Earlier.{expanded_fields}
use Rattle.lens_types.specs.Entries.{earlier_tree}
use Rattle.lens_types.specs.Heights.{capped}
use Rattle.lens_types.proofs.heights.+type_height.Given as goal

abbrev pub invariant-fields_height-loop-field : goal.invariant-fields_height-loop-field
invariant-fields_height-loop-field l =
    max l.highest (capped (highest (expanded_fields (earlier_tree l.earlier) (term_fields_of (map field_tree (drop l.field-index l.field-items))))))
    ≡ capped (highest (expanded_fields (earlier_tree l.earlier) (term_fields_of (map field_tree l.field-items))))

abbrev pub decreases-type_height : goal.decreases-type_height
decreases-type_height l = type_size (type_tree l.ty.now)

abbrev pub decreases-fields_height : goal.decreases-fields_height
decreases-fields_height l = fields_size (fields_tree l.fields.now)
