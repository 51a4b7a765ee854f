use Rattle.std.proofs.Common.{List, ℕ, Some, option_map, refl, ap, ◌∙◌}
use Rattle.std.specs.Borrow.{Bor}
use Rattle.json_tokens.specs.TreesAt.{read_at}
use Rattle.store_records.specs.RecordJson.{opening_of}
use Rattle.store_records.proofs.SnapshotsTaken.{alone_read, with_version_read}
use Rattle.store_records.proofs.tokens.take_opening.Goals as goal

pub returns-in-None : goal.returns-in-None
returns-in-None c =
    ap (read_at opening_of 127) (c.if-not-opens_object.ensures refl)
    ∙ alone_read _ _ _ _ c.in_ok-text.text.now (c.if-not-takes_key.ensures refl) (c.in_ok-text.ensures 126)
    (c.in_ok-next_key.ensures ∙ ap (λ k. Some (option_map (λ (x : Bor (List ℕ)). x.now) k, c.next_key.new.reader)) c.in-None.is)

pub returns-else-not-closes_object : goal.returns-else-not-closes_object
returns-else-not-closes_object c =
    ap (read_at opening_of 127) (c.if-not-opens_object.ensures refl)
    ∙ with_version_read _ _ _ _ _ _ c.in_ok-text.text.now (c.if-not-takes_key.ensures refl) (c.in_ok-text.ensures 126)
    (c.in_ok-next_key.ensures ∙ ap (λ k. Some (option_map (λ (x : Bor (List ℕ)). x.now) k, c.next_key.new.reader)) c.in-Some-version.is
    ∙ ap (λ s. Some (Some s, c.next_key.new.reader)) c.in-Some-version.is-version)
    (c.in_ok-take_number-in-Some-version.ensures 126 ∙ ap (λ n. Some (n, c.take_number.new.reader)) c.if-branch-ne-VERSION.false) (c.if-not-closes_object.ensures refl)
