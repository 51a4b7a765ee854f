use Rattle.std.proofs.Common.{Some, refl, sym, ap, ◌∙◌}
use Rattle.json_tokens.specs.TreesAt.{read_at}
use Rattle.store_records.specs.RecordJson.{snapshot_record, record_of}
use Rattle.store_records.proofs.SnapshotsTaken.{payload_read}
use Rattle.store_records.proofs.tokens.snapshot_by_tokens.Goals as goal

pub returns : goal.returns
returns c =
    let t = c.in_ok-triple.ensures in (
      t.0,
      payload_read record_of c.args.payload.now (snapshot_record t.0) c.in_ok-reader.ensures.utf8
          (ap (read_at record_of 127) (sym c.in_ok-reader.ensures.tokens) ∙ t.1 ∙ ap (λ ts. Some (snapshot_record t.0, ts)) (c.if-not-is_at_end.ensures refl)),
      t.2,
    )
