use Rattle.std.proofs.Common.{◌≡◌, map, take}
use Rattle.program_terms.specs.Views.{field_tree}
use Rattle.program_terms.proofs.types.+copy_type.Given as goal

abbrev pub invariant-copy_fields-loop-field : goal.invariant-copy_fields-loop-field
invariant-copy_fields-loop-field l = map field_tree l.items.items ≡ map field_tree (take l.field-index l.field-items)
