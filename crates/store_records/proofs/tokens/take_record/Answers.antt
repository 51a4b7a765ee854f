use Rattle.std.proofs.Common.{refl}
use Rattle.lens_forms.specs.Forms.{form_tree}
use Rattle.store_records.proofs.SnapshotsTaken.{snapshot_taken}
use Rattle.store_records.proofs.tokens.take_record.Goals as goal

pub returns : goal.returns
returns c =
    snapshot_taken (form_tree c.args.typed.now) c.in_ok-triple.triple _ _ _ _ _ (c.if-not-opens_object.ensures refl) (c.if-not-takes_key.ensures refl) c.in_ok-triple.ensures (c.if-not-closes_object.ensures refl)
