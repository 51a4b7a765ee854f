use Rattle.std.proofs.Common.{Some, refl, sym, ap, ◌∙◌}
use Rattle.edit_module.specs.Views.{change_tree}
use Rattle.json_tokens.specs.TreesAt.{read_at}
use Rattle.store_records.specs.RecordJson.{change_in}
use Rattle.store_records.proofs.SnapshotsTaken.{payload_read}
use Rattle.store_records.proofs.tokens.change_by_tokens.Goals as goal

pub returns : goal.returns
returns c =
    let x = change_tree c.in_ok-change.change in
    payload_read change_in c.args.payload.now x c.in_ok-reader.ensures.utf8
    (ap (read_at change_in 127) (sym c.in_ok-reader.ensures.tokens) ∙ c.in_ok-change.ensures ∙ ap (λ ts. Some (x, ts)) (c.if-not-is_at_end.ensures refl))
