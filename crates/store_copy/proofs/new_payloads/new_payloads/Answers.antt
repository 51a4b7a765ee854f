use Rattle.std.proofs.Common.{◌≡◌, Some, MatchResult, sym, subst, ◌∙◌}
use Rattle.store_run.proofs.Openings.{never_refused}
use Rattle.store_run.specs.Making.{IsMakingFault}
use Rattle.store_run.specs.declared.undo_session.MakingFault.TheVariants.{NoMemory}
use Rattle.store_copy.specs.NewPayloads.{IsPlanned}
use Rattle.store_copy.proofs.NewPayloadsMade.{opened_same, unmade_memory, unmade_refused}
use Rattle.store_copy.proofs.new_payloads.new_payloads.Goals as goal

pub returns-in-Ok-clause-made : goal.returns-in-Ok-clause-made
returns-in-Ok-clause-made g c =
    let session = g.A.StoredSession in
    let payloads = c.args.payloads in
    let opened = c.in-Ok.opened in
    λ t version stands allowed.
    opened_same (session.stands_for payloads)
    (λ u v. MatchResult c.text_of.result (λ text. IsPlanned session g.A.RemadeSession.beginning g.A.RemadeSession.earlier c.args.way payloads u v text.payloads text.lines.items) (λ fault. fault ≡ NoMemory))
    (session.state opened.session) t opened.version version c.in-Ok.ensures.stands stands (c.text_of.ensures opened.version c.in-Ok.ensures.stands allowed)

pub returns-in-Ok-clause-refused : goal.returns-in-Ok-clause-refused
returns-in-Ok-clause-refused g c =
    let session = g.A.StoredSession in
    let opened = c.in-Ok.opened in
    λ reason q. absurd (never_refused (session.stands_for c.args.payloads) (session.state opened.session, opened.version) reason c.in-Ok.ensures.stands q)

pub returns-in-Err-clause-made : goal.returns-in-Err-clause-made
returns-in-Err-clause-made g c =
    λ t version stands allowed. c.unmade.ensures ∙ unmade_memory (g.A.StoredSession.stands_for c.args.payloads) (t, version) stands c.in-Err.fault c.in-Err.ensures.stands

pub returns-in-Err-clause-refused : goal.returns-in-Err-clause-refused
returns-in-Err-clause-refused g c =
    λ reason q. subst (IsMakingFault (Some reason)) (sym c.unmade.ensures) (unmade_refused (g.A.StoredSession.stands_for c.args.payloads) reason q c.in-Err.fault c.in-Err.ensures.stands)
