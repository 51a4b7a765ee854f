use Rattle.std.proofs.Common.{◌≡◌, MatchResult, sym, subst}
use Rattle.store_run.specs.declared.undo_session.MakingFault.TheVariants.{NoMemory}
use Rattle.store_copy.specs.NewPayloads.{IsAllowed, IsPlanned}
use Rattle.store_copy.specs.declared.new_payloads.Remaking.{Remaking}
use Rattle.store_copy.proofs.new_payloads.text_of.Goals as goal

pub returns-in-Compact : goal.returns-in-Compact
returns-in-Compact g c =
    let session = g.A.StoredSession in
    let state = session.state c.args.session.now in
    λ version stands allowed.
    subst
    (λ (way : Remaking). MatchResult c.compacted.result (λ text. IsPlanned session g.A.RemadeSession.beginning g.A.RemadeSession.earlier way c.args.payloads state version text.payloads text.lines.items) (λ fault. fault ≡ NoMemory))
    (sym c.in-Compact.is) (c.compacted.ensures version stands)

pub returns-in-Copy : goal.returns-in-Copy
returns-in-Copy g c =
    let session = g.A.StoredSession in
    let state = session.state c.args.session.now in
    λ version stands allowed.
    subst
    (λ (way : Remaking). MatchResult c.copied.result (λ text. IsPlanned session g.A.RemadeSession.beginning g.A.RemadeSession.earlier way c.args.payloads state version text.payloads text.lines.items) (λ fault. fault ≡ NoMemory))
    (sym c.in-Copy.is) (c.copied.ensures state version stands)

pub returns-in-Back : goal.returns-in-Back
returns-in-Back g c =
    let session = g.A.StoredSession in
    let state = session.state c.args.session.now in
    λ version stands allowed.
    subst
    (λ (way : Remaking). MatchResult c.taken_back.result (λ text. IsPlanned session g.A.RemadeSession.beginning g.A.RemadeSession.earlier way c.args.payloads state version text.payloads text.lines.items) (λ fault. fault ≡ NoMemory))
    (sym c.in-Back.is) (c.taken_back.ensures state version stands (subst (IsAllowed) c.in-Back.is allowed))
