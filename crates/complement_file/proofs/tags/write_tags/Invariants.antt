use Rattle.std.proofs.Common.{◌≡◌, take, map}
use Rattle.serde_json.specs.View.{view}
use Rattle.doc_values.specs.Types.{type_fields_of, field_tree}
use Rattle.complement_file.proofs.TagNames.{tag_tree}
use Rattle.complement_file.proofs.tags.write_tags.Given as goal

abbrev pub invariant-loop-place : goal.invariant-loop-place
invariant-loop-place l = map view l.items.items ≡ map (tag_tree (type_fields_of (map field_tree l.fields))) (take l.place l.seq)
