use Rattle.std.proofs.Common.{◌≡◌, List, ℕ, MatchResult, refl, sym, ap, subst, ◌∙◌}
use Rattle.store_run.proofs.StoreOpenings.{refused_by_log, same_payloads, unread_log}
use Rattle.store_run.specs.Refusals.{refusal_of_log}
use Rattle.store_run.specs.declared.undo_session.MakingFault.TheVariants.{NoMemory}
use Rattle.store_copy.specs.NewPayloads.{IsPlanned}
use Rattle.store_copy.proofs.NewPayloadsMade.{text_made, text_not_at_disk, text_refused}
use Rattle.store_copy.proofs.remaking.read_text.Goals as goal

pub returns-in-Ok-clause-made : goal.returns-in-Ok-clause-made
returns-in-Ok-clause-made g c =
    let session = g.A.StoredSession in
    let beginning = g.A.RemadeSession.beginning in
    let earlier = g.A.RemadeSession.earlier in
    λ allowed store.
    let same = same_payloads store.bytes c.in-Ok.read.payloads store.payloads (c.in-Ok.ensures.read store.bytes store.told).holds store.holds in
    text_made c.new_payloads.result c.opened_text.result (λ text. IsPlanned session beginning earlier c.args.way store.payloads store.state store.version text.payloads text.lines.items)
    c.opened_text.ensures
    (subst
    (λ (ps : List (List ℕ)). MatchResult c.new_payloads.result (λ text. IsPlanned session beginning earlier c.args.way ps store.state store.version text.payloads text.lines.items) (λ fault. fault ≡ NoMemory))
    same (c.new_payloads.ensures.made store.state store.version (ap session.stands_for same ∙ store.stands) allowed))

pub returns-in-Ok-clause-refused : goal.returns-in-Ok-clause-refused
returns-in-Ok-clause-refused g c =
    λ other.
    text_refused c.new_payloads.result c.opened_text.result other.reason c.opened_text.ensures
    (c.new_payloads.ensures.refused other.reason (sym (ap (refusal_of_log g.A.StoredSession) (c.in-Ok.ensures.read other.bytes other.told).holds) ∙ other.refused))

pub returns-in-Ok-clause-opening : goal.returns-in-Ok-clause-opening
returns-in-Ok-clause-opening g c = c.in-Ok.ensures.opening

pub returns-in-Ok-clause-cause : goal.returns-in-Ok-clause-cause
returns-in-Ok-clause-cause g c = λ e. absurd (text_not_at_disk c.new_payloads.result c.opened_text.result c.opened_text.ensures e)

pub returns-in-Ok-clause-sure : goal.returns-in-Ok-clause-sure
returns-in-Ok-clause-sure g c = λ e. absurd (text_not_at_disk c.new_payloads.result c.opened_text.result c.opened_text.ensures e)

pub returns-in-Err-clause-made : goal.returns-in-Err-clause-made
returns-in-Err-clause-made g c = λ allowed store. unread_log store.bytes store.payloads store.holds c.in-Err.fault (c.in-Err.ensures.read store.bytes store.told)

pub returns-in-Err-clause-refused : goal.returns-in-Err-clause-refused
returns-in-Err-clause-refused g c =
    λ other.
    refused_by_log (refusal_of_log g.A.StoredSession) other.bytes other.reason other.refused refl (λ n. refl) c.in-Err.fault (c.in-Err.ensures.read other.bytes other.told)
