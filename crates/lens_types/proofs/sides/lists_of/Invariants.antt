use Rattle.std.proofs.Common.{◌≡◌, ◌++◌, map, drop}
use Rattle.doc_values.specs.Types.{type_fields_of, field_list, field_tree}
use Rattle.lens_forms.specs.Forms.{lists_of}
use Rattle.lens_types.proofs.sides.lists_of.Given as goal

abbrev pub invariant-loop-field : goal.invariant-loop-field
invariant-loop-field l =
    map field_tree l.lists.items ++ field_list (lists_of (type_fields_of (map field_tree (drop l.field-index l.fields))))
    ≡ field_list (lists_of (type_fields_of (map field_tree l.fields)))
