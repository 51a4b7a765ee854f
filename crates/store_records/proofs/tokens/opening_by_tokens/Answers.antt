use Rattle.std.proofs.Common.{Some, refl, sym, ap, ◌∙◌}
use Rattle.json_tokens.specs.TreesAt.{read_at}
use Rattle.store_records.specs.RecordJson.{opening_of}
use Rattle.store_records.proofs.SnapshotsTaken.{payload_read}
use Rattle.store_records.proofs.tokens.opening_by_tokens.Goals as goal

pub returns : goal.returns
returns c =
    let o = c.in_ok-opening.opening in
    payload_read opening_of c.args.payload.now (o.0.now, o.1) c.in_ok-reader.ensures.utf8
    (ap (read_at opening_of 127) (sym c.in_ok-reader.ensures.tokens) ∙ c.in_ok-opening.ensures ∙ ap (λ ts. Some ((o.0.now, o.1), ts)) (c.if-not-is_at_end.ensures refl))
