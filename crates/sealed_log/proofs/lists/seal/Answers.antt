use Rattle.std.proofs.Common.{◌≡◌, ◌+◌, ◌<◌, ◌++◌, [], ◌∷◌, List, ℕ, length, drop, ap, ap₂, ◌∙◌, arith, rules}
use Rattle.sealed_log.specs.SealedRecords.{seal_of, sealed_record}
use Rattle.sealed_log.specs.SealedLists.{sealed_from}
use Rattle.sealed_log.proofs.SealedLists.{sealed-more}
use Rattle.sealed_log.proofs.lists.seal.Goals as goal

pub loop-i-preserved : goal.loop-i-preserved
loop-i-preserved c =
    let l = c.loop-i in
    let it = c.index-payloads-i.result in
    let payloads = c.args.payloads.now in
    let within : l.i < length payloads = omega (arith, c.loop-i-test.true) in
    let bytes : c.in_ok-record.record.bytes ≡ sealed_record l.before (l.i + 1) it =
    c.in_ok-record.ensures.bytes ∙ ap (sealed_record l.before (l.i + 1)) c.as_slice.ensures in
    let seal : c.in_ok-record.record.seal ≡ seal_of l.before (l.i + 1) it =
    c.in_ok-record.ensures.seal ∙ ap (seal_of l.before (l.i + 1)) c.as_slice.ensures in
    let items : c.push.new.self.items ≡ l.records.items ++ c.in_ok-record.record.bytes ∷ [] = search rules in
    let out = l.records.items in
    ap₂ (λ (all : List (List ℕ)) (s : ℕ). all ++ sealed_from s (l.i + 1 + 1) (drop (l.i + 1) payloads))
    (items ∙ ap (λ (b : List ℕ). out ++ b ∷ []) bytes) seal
    ∙ sealed-more payloads out l.before l.i it within c.index-payloads-i.is
    ∙ l.invariant
