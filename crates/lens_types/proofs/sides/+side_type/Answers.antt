use Rattle.std.proofs.Common.{take, ap, arith}
use Rattle.lens_types.specs.Entries.{earlier_tree}
use Rattle.lens_types.specs.Sizes.{arms_size, rows_size}
use Rattle.lens_types.proofs.Lists.{side_fields_done, side_tags_done}
use Rattle.lens_types.proofs.Sizes.{arm_smaller, row_smaller}
use Rattle.lens_types.proofs.sides.+side_type.Goals as goal

pub side_fields-side_field-requires : goal.side_fields-side_field-requires
side_fields-side_field-requires t c =
    let low = row_smaller c.as_slice-row-items.result.now c.loop-row.row-index c.row-item.result c.loop-row-test.true c.row-item.is in
    let same = ap rows_size c.as_slice-row-items.ensures in
    (omega (arith, low, same), tt)

pub side_tags-side_type-ty-requires : goal.side_tags-side_type-ty-requires
side_tags-side_type-ty-requires t c =
    let low = arm_smaller c.as_slice-arm-items.result.now c.loop-arm.arm-index c.arm-item.result c.loop-arm-test.true c.arm-item.is in
    let same = ap arms_size c.as_slice-arm-items.ensures in
    (omega (arith, low, same), tt)

pub side_fields-returns : goal.side_fields-returns
side_fields-returns t c =
    let xs = c.as_slice-row-items.result.now in
    rw (← c.as_slice-row-items.ensures)
    (side_fields_done c.args.side (take c.args.scope (earlier_tree c.args.earlier.now)) xs c.loop-row.fields.items c.loop-row.row-index (omega arith) c.loop-row.invariant)

pub side_tags-returns : goal.side_tags-returns
side_tags-returns t c =
    let xs = c.as_slice-arm-items.result.now in
    rw (← c.as_slice-arm-items.ensures)
    (side_tags_done c.args.side (take c.args.scope (earlier_tree c.args.earlier.now)) xs c.loop-arm.tags.items c.loop-arm.arm-index (omega arith) c.loop-arm.invariant)
