use Rattle.std.proofs.Common.{◌≡◌, ◌+◌, ◌-◌, length, take, drop, ap, ◌∙◌, arith}
use Rattle.sealed_log.specs.SealedRecords.{payload_start}
use Rattle.sealed_log.proofs.PayloadPlaces.{between, body_head-length}
use Rattle.sealed_log.proofs.record.payload_in.Goals as goal

pub returns : goal.returns
returns c =
    let start = 28 + length c.format.result.now + 10 in
    let end = c.saturating_sub-end.result in
    let stored = c.args.stored.now in
    let start_is : start ≡ payload_start c.args.number = omega (arith, body_head-length c.args.number, ap length c.format.ensures.text) in
    ap (λ from. take (end - from) (drop from stored)) c.min.ensures
    ∙ between start end (length stored) stored c.saturating_sub-end.ensures
    ∙ ap (λ from. take (length stored - (from + 1)) (drop from stored)) start_is
