use Rattle.std.proofs.Common.{◌≡◌, ◌+◌, ◌*◌, ◌++◌, [], drop, map, List, ℕ, string_bytes}
use Rattle.program_terms.specs.Terms.{term_fields_of}
use Rattle.program_terms.specs.Views.{type_tree, fields_tree, field_tree}
use Rattle.program_writing.specs.Canonical.{put_fields}
use Rattle.program_writing.specs.Puts.{comma}
use Rattle.program_terms.proofs.Levels.{type_levels, field_levels}
use Rattle.program_writing.proofs.type_text.+put_type.Given as goal

abbrev pub decreases-put_type : goal.decreases-put_type
decreases-put_type l = 2 * type_levels (type_tree l.ty.now)

abbrev pub decreases-put_fields : goal.decreases-put_fields
decreases-put_fields l = 2 * field_levels (fields_tree l.fields.now) + 1

abbrev pub invariant-put_fields-loop-field : goal.invariant-put_fields-loop-field
invariant-put_fields-loop-field l = (rest : List ℕ) → string_bytes l.out ++ put_fields (comma l.first) (term_fields_of (map field_tree (drop l.field-index l.field-items))) rest ≡ string_bytes l.fn.out ++ put_fields [] (term_fields_of (map field_tree l.field-items)) rest
