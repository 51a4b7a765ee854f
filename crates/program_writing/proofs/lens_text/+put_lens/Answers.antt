use Rattle.std.proofs.Common.{ap, arith}
use Rattle.program_terms.proofs.Levels.{row_levels, row_within, arm_levels, arm_within}
use Rattle.program_writing.proofs.lens_text.+put_lens.Goals as goal

pub put_rows-put_row-requires : goal.put_rows-put_row-requires
put_rows-put_row-requires t c =
    let low = row_within c.as_slice-row-items.result.now c.loop-row.row-index c.row-item.result c.loop-row-test.true c.row-item.is in
    let same = ap row_levels c.as_slice-row-items.ensures in
    (omega (arith, low, same), tt)

pub put_arms-put_lens-requires : goal.put_arms-put_lens-requires
put_arms-put_lens-requires t c =
    let low = arm_within c.as_slice-arm-items.result.now c.loop-arm.arm-index c.arm-item.result c.loop-arm-test.true c.arm-item.is in
    let same = ap arm_levels c.as_slice-arm-items.ensures in
    (omega (arith, low, same), tt)
