use Rattle.std.proofs.Common.{◌≡◌, inl, inr, ℕ, List, Option, Result, Ok, Err, ap, subst}
use Rattle.std.specs.Prelude.{IsNone}
use Rattle.store_run.specs.ViewCall.{Views, view_text}
use Rattle.store_run.specs.declared.opening.OpenFault.{OpenFault}
use Rattle.store_run.proofs.StoreOpenings.{ends_refused, fails_to_open}
use Rattle.store_run.proofs.view_call.view_store.Goals as goal

pub returns-in-Ok-clause-views : goal.returns-in-Ok-clause-views
returns-in-Ok-clause-views g c =
    let session = g.A.StoredSession in
    let made = c.in-Ok.store in
    λ store.
    let o = c.in-Ok.ensures.opened store in
    subst (λ (n : ℕ). Views g.K.Sink c.args.sink.now c.give_view.new.sink (view_text session c.args.view store.state n) c.give_view.result) o.counted
    (subst (λ (t : session.State). Views g.K.Sink c.args.sink.now c.give_view.new.sink (view_text session c.args.view t made.count) c.give_view.result) o.state_is c.give_view.ensures.views)

pub returns-in-Ok-clause-refused : goal.returns-in-Ok-clause-refused
returns-in-Ok-clause-refused g c = λ other. absurd (c.in-Ok.ensures.refused other)

pub returns-in-Ok-clause-disk_fault : goal.returns-in-Ok-clause-disk_fault
returns-in-Ok-clause-disk_fault g c = λ e. absurd (c.give_view.ensures.no_disk e)

pub returns-in-Ok-clause-sure : goal.returns-in-Ok-clause-sure
returns-in-Ok-clause-sure g c = λ e. absurd (c.give_view.ensures.no_disk e)

pub returns-in-Ok-clause-unwritten : goal.returns-in-Ok-clause-unwritten
returns-in-Ok-clause-unwritten g c = c.in-Ok.ensures.opening.unwritten

pub returns-in-Ok-clause-moments : goal.returns-in-Ok-clause-moments
returns-in-Ok-clause-moments g c = c.in-Ok.ensures.opening.moments

pub returns-in-Err-clause-views : goal.returns-in-Err-clause-views
returns-in-Err-clause-views g c =
    let disk = g.D.Disk in
    let sink = g.K.Sink in
    let session = g.A.StoredSession in
    let k = c.args.sink.now in
    let d = c.args.disk.now in
    let d1 = c.open_store.new.disk in
    let k' = c.refuse_store.new.sink in
    let status = c.refuse_store.result in
    let fault = c.in-Err.fault in
    let ends = c.refuse_store.ensures.ends in
    λ store. inr (inr (fails_to_open sink disk k k' d d1 status fault (c.in-Err.ensures.opened store) (λ e. c.in-Err.ensures.sure (ap (λ (x : OpenFault). Err x) e)) ends).0)

pub returns-in-Err-clause-refused : goal.returns-in-Err-clause-refused
returns-in-Err-clause-refused g c =
    let disk = g.D.Disk in
    let sink = g.K.Sink in
    let session = g.A.StoredSession in
    let k = c.args.sink.now in
    let d = c.args.disk.now in
    let d1 = c.open_store.new.disk in
    let k' = c.refuse_store.new.sink in
    let status = c.refuse_store.result in
    let fault = c.in-Err.fault in
    let ends = c.refuse_store.ensures.ends in
    λ other. ends_refused sink disk k k' d d1 status fault other.reason (c.in-Err.ensures.refused other) (λ e. c.in-Err.ensures.sure (ap (λ (x : OpenFault). Err x) e)) ends

pub returns-in-Err-clause-unwritten : goal.returns-in-Err-clause-unwritten
returns-in-Err-clause-unwritten g c = c.in-Err.ensures.opening.unwritten

pub returns-in-Err-clause-moments : goal.returns-in-Err-clause-moments
returns-in-Err-clause-moments g c = c.in-Err.ensures.opening.moments

pub returns-in-Err-clause-disk_fault : goal.returns-in-Err-clause-disk_fault
returns-in-Err-clause-disk_fault g c = λ e. c.in-Err.ensures.cause (ap (λ (x : OpenFault). Err x) (c.refuse_store.ensures.disk_fault e))

pub returns-in-Err-clause-sure : goal.returns-in-Err-clause-sure
returns-in-Err-clause-sure g c = λ e. c.in-Err.ensures.sure (ap (λ (x : OpenFault). Err x) (c.refuse_store.ensures.disk_fault e))
