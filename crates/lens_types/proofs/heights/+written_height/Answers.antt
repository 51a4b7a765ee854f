use Rattle.std.proofs.Common.{ap, arith}
use Rattle.lens_types.proofs.Sizes.{arm_smaller, row_smaller}
use Rattle.lens_types.specs.Sizes.{arms_size, rows_size}
use Rattle.lens_types.proofs.heights.+written_height.Goals as goal

pub rows_written-row_written-requires : goal.rows_written-row_written-requires
rows_written-row_written-requires t c =
    let low = row_smaller c.as_slice-row-items.result.now c.loop-row.row-index c.row-item.result c.loop-row-test.true c.row-item.is in
    let same = ap rows_size c.as_slice-row-items.ensures in
    (omega (arith, low, same), tt)

pub arms_written-written_height-requires : goal.arms_written-written_height-requires
arms_written-written_height-requires t c =
    let low = arm_smaller c.as_slice-arm-items.result.now c.loop-arm.arm-index c.arm-item.result c.loop-arm-test.true c.arm-item.is in
    let same = ap arms_size c.as_slice-arm-items.ensures in
    (omega (arith, low, same), tt)
