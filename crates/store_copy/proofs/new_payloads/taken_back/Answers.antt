use Rattle.std.proofs.Common.{◌≡◌, ℕ, List, Ok, ap, subst, ◌∙◌}
use Rattle.store_copy.proofs.NewPayloadsMade.{unmade_memory}
use Rattle.store_copy.proofs.new_payloads.taken_back.Goals as goal

pub returns-in-Ok : goal.returns-in-Ok
returns-in-Ok g c =
    let session = g.A.StoredSession in
    let opened = c.in-Ok.opened in
    λ t version stands allowed.
    c.with_snapshot.ensures t version opened.version stands
    (subst (λ (ps : List (List ℕ)). session.stands_for ps ≡ Ok (session.state opened.session, opened.version)) c.in_ok-front.ensures c.in-Ok.ensures.stands) allowed

pub returns-in-Err : goal.returns-in-Err
returns-in-Err g c =
    let session = g.A.StoredSession in
    λ t version stands allowed.
    let earlier = g.met.A.RemadeSession.earlier_stands c.args.number c.args.payloads t version allowed stands in
    c.unmade.ensures
    ∙ unmade_memory (session.stands_for c.in_ok-front.front) (earlier.0, earlier.1) (ap session.stands_for c.in_ok-front.ensures ∙ earlier.2) c.in-Err.fault c.in-Err.ensures.stands
