use Rattle.std.proofs.Common.{◌≡◌, map, drop}
use Rattle.std.specs.Prelude.{option_and_then}
use Rattle.program_terms.specs.Terms.{term_rows_of, term_arms_of}
use Rattle.program_terms.specs.Views.{arm_tree, arms_tree, lens_tree, row_tree, rows_tree}
use Rattle.lens_types.specs.Sizes.{lens_size, rows_size, row_size, arms_size}
use Rattle.lens_types.specs.Entries.{earlier_tree}
use Rattle.lens_types.specs.PartRooms.{rows_room, arms_room}
use Rattle.lens_types.proofs.size.+lens_room.Given as goal

abbrev pub invariant-rows_room-loop-row : goal.invariant-rows_room-loop-row
invariant-rows_room-loop-row l =
    rows_room (earlier_tree l.earlier) (term_rows_of (map row_tree (drop l.row-index l.row-items))) l.left
    ≡ option_and_then (rows_room (earlier_tree l.earlier) (term_rows_of (map row_tree l.row-items))) l.fn.room

abbrev pub invariant-arms_room-loop-arm : goal.invariant-arms_room-loop-arm
invariant-arms_room-loop-arm l =
    arms_room (earlier_tree l.earlier) (term_arms_of (map arm_tree (drop l.arm-index l.arm-items))) l.left
    ≡ option_and_then (arms_room (earlier_tree l.earlier) (term_arms_of (map arm_tree l.arm-items))) l.fn.room

abbrev pub decreases-lens_room : goal.decreases-lens_room
decreases-lens_room l = lens_size (lens_tree l.lens.now)

abbrev pub decreases-rows_room : goal.decreases-rows_room
decreases-rows_room l = rows_size (rows_tree l.rows.now)

abbrev pub decreases-row_room : goal.decreases-row_room
decreases-row_room l = row_size (row_tree l.row.now)

abbrev pub decreases-arms_room : goal.decreases-arms_room
decreases-arms_room l = arms_size (arms_tree l.arms.now)
