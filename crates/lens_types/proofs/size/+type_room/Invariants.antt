use Rattle.std.proofs.Common.{◌≡◌, map, drop}
use Rattle.std.specs.Prelude.{option_and_then}
use Rattle.program_terms.specs.Terms.{term_fields_of}
use Rattle.program_terms.specs.Views.{field_tree, fields_tree, type_tree}
use Rattle.lens_types.specs.Sizes.{type_size, fields_size}
use Rattle.lens_types.specs.Entries.{earlier_tree}
use Rattle.lens_types.specs.PartRooms.{fields_room}
use Rattle.lens_types.proofs.size.+type_room.Given as goal

abbrev pub invariant-fields_room-loop-field : goal.invariant-fields_room-loop-field
invariant-fields_room-loop-field l =
    fields_room (earlier_tree l.earlier) (term_fields_of (map field_tree (drop l.field-index l.field-items))) l.left
    ≡ option_and_then (fields_room (earlier_tree l.earlier) (term_fields_of (map field_tree l.field-items))) l.fn.room

abbrev pub decreases-type_room : goal.decreases-type_room
decreases-type_room l = type_size (type_tree l.ty.now)

abbrev pub decreases-fields_room : goal.decreases-fields_room
decreases-fields_room l = fields_size (fields_tree l.fields.now)
