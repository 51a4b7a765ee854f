use Rattle.std.proofs.Common.{◌≡◌, ◌++◌, map, drop}
use Rattle.doc_values.specs.Types.{type_fields_of, field_tree, fields_tree, names_of}
use Rattle.lens_check.proofs.image_part_tags.tag_names.Given as goal

abbrev pub invariant-loop-tag : goal.invariant-loop-tag
invariant-loop-tag l = l.names.items ++ names_of (type_fields_of (map field_tree (drop l.tag-index l.fields))) ≡ names_of (fields_tree l.tags)
