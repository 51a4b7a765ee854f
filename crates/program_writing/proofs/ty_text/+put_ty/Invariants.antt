use Rattle.std.proofs.Common.{◌≡◌, ◌+◌, ◌*◌, ◌++◌, [], drop, map, List, ℕ, string_bytes}
use Rattle.doc_values.specs.Types.{type_fields_of, field_tree, fields_tree, ty_tree, height, highest}
use Rattle.program_writing.specs.Canonical.{put_fields, terms_of_fields}
use Rattle.program_writing.specs.Puts.{comma}
use Rattle.program_writing.proofs.ty_text.+put_ty.Given as goal

abbrev pub decreases-put_ty : goal.decreases-put_ty
decreases-put_ty l = 2 * height (ty_tree l.ty.now)

abbrev pub decreases-put_ty_fields : goal.decreases-put_ty_fields
decreases-put_ty_fields l = 2 * highest (fields_tree l.fields.now) + 1

abbrev pub invariant-put_ty_fields-loop-field : goal.invariant-put_ty_fields-loop-field
invariant-put_ty_fields-loop-field l =
    (rest : List ℕ) → string_bytes l.out ++ put_fields (comma l.first) (terms_of_fields (type_fields_of (map field_tree (drop l.field-index l.field-items)))) rest
    ≡ string_bytes l.fn.out ++ put_fields [] (terms_of_fields (type_fields_of (map field_tree l.field-items))) rest
