use Rattle.std.proofs.Common.{◌≡◌, ◌++◌, map, drop}
use Rattle.program_terms.specs.Terms.{term_fields_of}
use Rattle.program_terms.specs.Views.{field_tree}
use Rattle.lens_types.specs.Repeats.{sided, field_names}
use Rattle.lens_types.proofs.names.field_names.Given as goal

abbrev pub invariant-loop-field : goal.invariant-loop-field
invariant-loop-field l =
    map sided l.names.items ++ field_names (term_fields_of (map field_tree (drop l.field-index l.fields))) ≡ field_names (term_fields_of (map field_tree l.fields))
