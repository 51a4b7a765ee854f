-- The tags of a partition: how many they are.
use Rattle.std.proofs.Common.{◌≤◌, length, arith}
use Rattle.doc_values.specs.Types.{FieldTrees, no_fields, more_fields, field_list}
use Rattle.lens_forms.specs.Measures.{fields_parts}
use Rattle.lens_core.proofs.Tags.{field_list-tag_count}

pub tags_are_parts : (fs : FieldTrees) → length (field_list fs) ≤ fields_parts fs
tags_are_parts no_fields = omega arith
tags_are_parts (more_fields n t fs) = let rest = tags_are_parts fs in omega (arith, rest)

pub ruleset tag_rules = (field_list-tag_count, tags_are_parts)
