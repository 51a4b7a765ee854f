use Rattle.std.proofs.Common.{ap, ap₂, ◌∙◌}
use Rattle.record_sums.specs.Crc32c.{crc32c}
use Rattle.record_sums.proofs.SumsInPieces.{record_sum-in_pieces}
use Rattle.record_sums.proofs.records.record_sum.Goals as goal

pub returns : goal.returns
returns c =
    let first = c.crc32c-sum.ensures ∙ ap (crc32c 0) c.to_le_bytes.ensures in
    let second = c.crc32c-sum-2.ensures ∙ ap₂ crc32c first c.to_le_bytes-2.ensures in
    c.crc32c.ensures
    ∙ ap (λ sum. crc32c sum c.args.payload.now) second
    ∙ record_sum-in_pieces c.args.before c.args.number c.args.payload.now
