use Rattle.std.proofs.Common.{◌≡◌, ◌+◌, ◌≤◌, map}
use Rattle.texts.specs.Keys.{key_rank}
use Rattle.doc_values.specs.Types.{names_of}
use Rattle.lens_forms.specs.Forms.{form_rows_of, row_tree}
use Rattle.lens_core.specs.Sides.{fields_on}
use Rattle.lens_check.proofs.FieldPlaces.{count_from}
use Rattle.lens_check.proofs.image_record.field_place.Given as goal

abbrev pub invariant-loop-row : goal.invariant-loop-row
invariant-loop-row l =
    (l.place + count_from l.side l.name l.row-items l.row-index ≡ key_rank l.name (names_of (fields_on l.side (form_rows_of (map row_tree l.row-items)))))
    × (l.place ≤ l.row-index)
