use Rattle.std.proofs.Common.{◌≡◌, Some, true, false, bytes_eq, sym, ap, ◌∙◌, rules}
use Rattle.sealed_log.specs.SealedRecords.{payload_in, seal_of, sealed_record}
use Rattle.sealed_log.proofs.OpenedRecords.{opened-same, opened-other}
use Rattle.sealed_log.proofs.record.open_record.Goals as goal

pub returns-then-ne : goal.returns-then-ne
returns-then-ne c =
    let unlike : bytes_eq c.as_slice.result.now c.args.stored.now ≡ false = search rules in
    opened-other c.args.before c.args.number c.args.stored.now c.as_slice.result.now
    (c.as_slice.ensures ∙ c.in_ok-sealed.ensures.bytes ∙ ap (sealed_record c.args.before c.args.number) c.payload_in-payload.ensures) unlike

pub returns : goal.returns
returns c =
    let like : bytes_eq c.as_slice.result.now c.args.stored.now ≡ true = search rules in
    let payload : c.in_ok-payload.payload ≡ payload_in c.args.number c.args.stored.now = c.in_ok-payload.ensures ∙ c.payload_in-payload.ensures in (
      opened-same c.args.before c.args.number c.args.stored.now c.as_slice.result.now
          (c.as_slice.ensures ∙ c.in_ok-sealed.ensures.bytes ∙ ap (sealed_record c.args.before c.args.number) c.payload_in-payload.ensures) like
          ∙ ap Some (sym payload),
      c.in_ok-sealed.ensures.seal ∙ ap (seal_of c.args.before c.args.number) (c.payload_in-payload.ensures ∙ sym payload),
    )
