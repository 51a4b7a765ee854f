use Rattle.std.proofs.Common.{take, ap, arith}
use Rattle.lens_types.specs.Entries.{earlier_tree}
use Rattle.lens_types.specs.Sizes.{arms_size, rows_size}
use Rattle.lens_types.proofs.Lists.{rows_done, arms_done}
use Rattle.lens_types.proofs.Sizes.{arm_smaller, row_smaller}
use Rattle.lens_types.proofs.expansion.+expanded_lens.Goals as goal

pub expanded_rows-expanded_row-requires : goal.expanded_rows-expanded_row-requires
expanded_rows-expanded_row-requires t c =
    let low = row_smaller c.as_slice-row-items.result.now c.loop-row.row-index c.row-item.result c.loop-row-test.true c.row-item.is in
    let same = ap rows_size c.as_slice-row-items.ensures in
    (omega (arith, low, same), tt)

pub expanded_arms-expanded_lens-form-requires : goal.expanded_arms-expanded_lens-form-requires
expanded_arms-expanded_lens-form-requires t c =
    let low = arm_smaller c.as_slice-arm-items.result.now c.loop-arm.arm-index c.arm-item.result c.loop-arm-test.true c.arm-item.is in
    let same = ap arms_size c.as_slice-arm-items.ensures in
    (omega (arith, low, same), tt)

pub expanded_rows-returns : goal.expanded_rows-returns
expanded_rows-returns t c =
    let xs = c.as_slice-row-items.result.now in
    rw (c.from_vec.ensures, ← c.as_slice-row-items.ensures)
    (rows_done (take c.args.scope (earlier_tree c.args.earlier.now)) xs c.loop-row.items.items c.loop-row.row-index (omega arith) c.loop-row.invariant)

pub expanded_arms-returns : goal.expanded_arms-returns
expanded_arms-returns t c =
    let xs = c.as_slice-arm-items.result.now in
    rw (c.from_vec.ensures, ← c.as_slice-arm-items.ensures)
    (arms_done (take c.args.scope (earlier_tree c.args.earlier.now)) xs c.loop-arm.items.items c.loop-arm.arm-index (omega arith) c.loop-arm.invariant)
