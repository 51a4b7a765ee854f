use Rattle.std.proofs.Common.{◌/◌, ◌%◌, slice_index, bit_xor, ap, ◌∙◌}
use Rattle.record_sums.specs.declared.table.TheConstants.{SHIFTED_BYTES}
use Rattle.record_sums.proofs.TableSteps.{step-by_table}
use Rattle.record_sums.proofs.castagnoli.step.Goals as goal

pub returns : goal.returns
returns c =
    ap (λ byte. bit_xor (c.args.state / 256) (slice_index SHIFTED_BYTES (bit_xor c.args.state byte % 256))) c.from.ensures
    ∙ step-by_table c.args.state c.args.byte c.ranges.byte.fits
