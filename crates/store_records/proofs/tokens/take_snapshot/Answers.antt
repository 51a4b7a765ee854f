use Rattle.std.proofs.Common.{refl, rules}
use Rattle.lens_forms.specs.Forms.{form_tree}
use Rattle.store_records.proofs.SnapshotsTaken.{parts_taken}
use Rattle.store_records.proofs.tokens.take_snapshot.Goals as goal

pub returns : goal.returns
returns c =
    parts_taken (form_tree c.args.typed.now) _ _ _ _ _ _ _ _ _ _ _ _ (search rules) c.left.ensures.left c.right.ensures.right (c.if-not-opens_object.ensures refl) (c.if-not-takes_key.ensures refl) c.in_ok-comp.ensures
    (c.if-not-takes_key-2.ensures refl) c.in_ok-left.ensures (c.if-not-takes_key-3.ensures refl) c.in_ok-right.ensures (c.if-not-closes_object.ensures refl)
