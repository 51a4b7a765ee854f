use Rattle.std.proofs.Common.{◌≡◌, inl, inr, ℕ, List, Option, Some, None, sym, subst, refl, ◌∙◌}
use Rattle.std.specs.Prelude.{option_to_list}
use Rattle.std.proofs.KnownBytes.{Appends-nil}
use Rattle.std.proofs.lemmas.Option.{same_Some}
use Rattle.store_run.specs.Making.{IsMakingFault}
use Rattle.store_run.specs.Refusals.{WritesRefusal}
use Rattle.store_run.specs.StoreEnds.{StoreEnds}
use Rattle.store_run.specs.UndoCall.{UndoEnds}
use Rattle.store_run.specs.declared.refusals.StoreRefusal.{StoreRefusal}
use Rattle.store_run.proofs.Openings.{unwritten_none, opening_none}
use Rattle.store_run.proofs.StoredPayloads.{images_held}
use Rattle.store_run.proofs.undo_call.undo_payloads.Goals as goal

pub returns-in-Ok-clause-ends : goal.returns-in-Ok-clause-ends
returns-in-Ok-clause-ends g c =
    let sink = g.K.Sink in
    let disk = g.D.Disk in
    let session = g.A.UndoneSession in
    let k = c.args.sink.now in
    let k' = c.store_last.new.sink in
    let d = c.args.disk.now in
    let d' = c.store_last.new.disk in
    let l = c.args.log.now in
    let l' = c.store_last.new.log in
    let before = c.args.payloads.now in
    let made = c.in-Ok.ensures in
    let making = c.in-Ok.making in
    let status = c.store_last.result in
    λ u st h.
    subst (λ (x : session.Undone). UndoEnds sink disk session (k, d) (k', d') before x status) (same_Some made.u u (sym made.is ∙ h))
    (inl (
      record {
        d1 = d;
        log = l;
        log' = l';
        stands = st;
        opens = opening_none disk g.met.D.Disk.only_now d;
        ends =
            subst (λ (y : List ℕ). StoreEnds sink disk (k, d, l) (k', d', l') y (option_to_list (session.version_due made.u)) (session.snapshot_text made.u) status) made.lines
            (subst (λ (v : Option (List ℕ)). StoreEnds sink disk (k, d, l) (k', d', l') making.texts.lines (option_to_list v) (session.snapshot_text made.u) status) made.version
            (subst (λ (x : List ℕ). StoreEnds sink disk (k, d, l) (k', d', l') making.texts.lines (option_to_list making.version) x status) made.snapshot
            c.store_last.ensures.ends));
      },
      made.takes_back,
    ))

pub returns-in-Ok-clause-refused : goal.returns-in-Ok-clause-refused
returns-in-Ok-clause-refused g c =
    let made = c.in-Ok.ensures in
    λ refusal q.
    let never : None ≡ Some refusal = sym (g.met.A.UndoneSession.never_refused c.args.count c.args.payloads.now made.u made.is) ∙ q in cc

pub returns-in-Err-Refused-clause-ends : goal.returns-in-Err-Refused-clause-ends
returns-in-Err-Refused-clause-ends g c =
    let wanted = g.A.UndoneSession.refusal c.args.count c.args.payloads.now in
    let is = subst (IsMakingFault wanted) c.in-Err-Refused.field-0-is c.in-Err-Refused.ensures in
    λ u st h.
    let never : None ≡ Some c.in-Err-Refused.refusal = sym (g.met.A.UndoneSession.never_refused c.args.count c.args.payloads.now u h) ∙ is in cc

pub returns-in-Err-Refused-clause-refused : goal.returns-in-Err-Refused-clause-refused
returns-in-Err-Refused-clause-refused g c =
    let sink = g.K.Sink in
    let wanted = g.A.UndoneSession.refusal c.args.count c.args.payloads.now in
    let is = subst (IsMakingFault wanted) c.in-Err-Refused.field-0-is c.in-Err-Refused.ensures in
    λ refusal q. (
      unwritten_none g.D.Disk c.args.disk.now,
      inl (subst (λ (x : StoreRefusal). WritesRefusal sink c.args.sink.now c.refuse.new.sink x c.refuse.result) (same_Some c.in-Err-Refused.refusal refusal (sym is ∙ q)) c.refuse.ensures.refuses),
    )

pub returns-in-Err-NoMemory-clause-ends : goal.returns-in-Err-NoMemory-clause-ends
returns-in-Err-NoMemory-clause-ends g c =
    let disk = g.D.Disk in
    let d = c.args.disk.now in
    let before = c.args.payloads.now in
    λ u st h.
    inr (record {
      opens = opening_none disk g.met.D.Disk.only_now d;
      holds = λ x now. images_held disk g.met.D.Disk.content_is_image c.args.log.now d before x st now;
      fails = ((inr refl, Appends-nil (g.K.Sink.held c.args.sink.now)), λ e. cc);
    })

pub returns-in-Err-NoMemory-clause-refused : goal.returns-in-Err-NoMemory-clause-refused
returns-in-Err-NoMemory-clause-refused g c = λ refusal q. (unwritten_none g.D.Disk c.args.disk.now, inr ((inr refl, Appends-nil (g.K.Sink.held c.args.sink.now)), λ e. cc))
