use Rattle.std.proofs.Common.{◌≡◌, inl, inr, ℕ, List, Option, Result, Ok, Err, sym, ap, subst, ◌∙◌, refl}
use Rattle.std.specs.Prelude.{IsNone}
use Rattle.gate_log.specs.LogOnDisk.{HoldsPayloads}
use Rattle.lens_io.proofs.Increases.{increased_since}
use Rattle.store_run.specs.PackCall.{EndsPack, IsSafePack, PacksCall}
use Rattle.store_run.specs.declared.opening.OpenFault.{OpenFault}
use Rattle.store_run.specs.declared.opening.OpenFault.TheVariants.{DiskFault}
use Rattle.store_run.proofs.Effects.{first_none}
use Rattle.store_run.proofs.Openings.{unwritten_then}
use Rattle.store_run.proofs.PackCalls.{packed_later, safe_after, safe_kept}
use Rattle.store_run.proofs.Rooms.{pack_cause, pack_complete}
use Rattle.store_run.proofs.StoredPayloads.{images_held, reads_held}
use Rattle.store_run.proofs.StoreOpenings.{as_opened, ends_refused, fails_to_open, same_fault, unopened_at_disk}
use Rattle.store_run.proofs.pack_call.pack.Goals as goal

-- ---- the store was opened

pub returns-in-Ok-clause-packs : goal.returns-in-Ok-clause-packs
returns-in-Ok-clause-packs g c =
    let disk = g.D.Disk in
    let sink = g.K.Sink in
    let session = g.A.StoredSession in
    let hold = images_held disk g.met.D.Disk.content_is_image in
    let reads = reads_held disk in
    let laws = g.met.A.StoredSession in
    let k = c.args.sink.now in
    let d = c.args.disk.now in
    let d1 = c.open_store.new.disk in
    let made = c.in-Ok.store in
    let l = made.log in
    let t0 = session.state made.session in
    let v0 = made.version in
    let k' = c.pack_session.new.sink in
    let d' = c.pack_session.new.disk in
    let status = c.pack_session.result in
    let e = c.pack_session.ensures in
    λ store f.
    let o = c.in-Ok.ensures.opened store in
    let before = store.payloads in
    let same = as_opened disk session d d1 store made o in
    let stands = store.stands ∙ ap (λ (x : session.State × Option (List ℕ)). Ok x) (sym same) in
    subst (λ (x : session.State × Option (List ℕ)). PacksCall sink disk session k (k', d') before x.0 x.1) same (e.packs before o.stands stands o.counted f)

pub returns-in-Ok-clause-safe : goal.returns-in-Ok-clause-safe
returns-in-Ok-clause-safe g c =
    let disk = g.D.Disk in
    let sink = g.K.Sink in
    let session = g.A.StoredSession in
    let hold = images_held disk g.met.D.Disk.content_is_image in
    let reads = reads_held disk in
    let laws = g.met.A.StoredSession in
    let k = c.args.sink.now in
    let d = c.args.disk.now in
    let d1 = c.open_store.new.disk in
    let made = c.in-Ok.store in
    let l = made.log in
    let t0 = session.state made.session in
    let v0 = made.version in
    let k' = c.pack_session.new.sink in
    let d' = c.pack_session.new.disk in
    let status = c.pack_session.result in
    let e = c.pack_session.ensures in
    λ store.
    let o = c.in-Ok.ensures.opened store in
    let before = store.payloads in
    let same = as_opened disk session d d1 store made o in
    let stands = store.stands ∙ ap (λ (x : session.State × Option (List ℕ)). Ok x) (sym same) in
    let here = subst (λ (x : session.State × Option (List ℕ)). IsSafePack disk session d1 d' (HoldsPayloads before) before x.0 x.1) same (e.safe before o.stands stands) in
    inr (safe_after sink disk hold session reads laws.version_stands laws.snapshot_stands laws.version_counts laws.snapshot_counts d d' before store.state store.version store.stands (HoldsPayloads before) (disk.images d) d1
    (λ kept x p. inr (first_none before kept x p)) c.in-Ok.ensures.opening.moments here)

pub returns-in-Ok-clause-exits : goal.returns-in-Ok-clause-exits
returns-in-Ok-clause-exits g c =
    let disk = g.D.Disk in
    let sink = g.K.Sink in
    let session = g.A.StoredSession in
    let hold = images_held disk g.met.D.Disk.content_is_image in
    let reads = reads_held disk in
    let laws = g.met.A.StoredSession in
    let k = c.args.sink.now in
    let d = c.args.disk.now in
    let d1 = c.open_store.new.disk in
    let made = c.in-Ok.store in
    let l = made.log in
    let t0 = session.state made.session in
    let v0 = made.version in
    let k' = c.pack_session.new.sink in
    let d' = c.pack_session.new.disk in
    let status = c.pack_session.result in
    let e = c.pack_session.ensures in
    λ store.
    let o = c.in-Ok.ensures.opened store in
    let before = store.payloads in
    let same = as_opened disk session d d1 store made o in
    let stands = store.stands ∙ ap (λ (x : session.State × Option (List ℕ)). Ok x) (sym same) in
    let opening = c.in-Ok.ensures.opening in
    elim (subst (λ (x : session.State × Option (List ℕ)). EndsPack sink disk session (k, d1) (k', d') before x.0 x.1 status) same (e.exits before o.stands stands o.counted)) [
      | inl p ↦ inl (packed_later sink disk session k k' d d1 d' before store.state store.version status opening p)
      | inr u ↦ inr (unwritten_then disk d d1 d' opening.unwritten u.0, (u.1.0, λ f. subst (λ (r : Option ℕ). IsNone r) opening.same_room (u.1.1 f)))
    ]

pub returns-in-Ok-clause-disk_fault : goal.returns-in-Ok-clause-disk_fault
returns-in-Ok-clause-disk_fault g c =
    let faults = g.D.Disk.faults in
    λ e. increased_since (faults c.args.disk.now) (faults c.open_store.new.disk) (faults c.pack_session.new.disk) c.in-Ok.ensures.faults (c.pack_session.ensures.disk_fault e)

pub returns-in-Ok-clause-causes : goal.returns-in-Ok-clause-causes
returns-in-Ok-clause-causes g c =
    λ store.
    pack_cause g.K.Sink g.D.Disk g.A.StoredSession store.payloads store.state store.version c.args.sink.now c.pack_session.new.sink c.args.disk.now c.pack_session.new.disk
    store.bytes c.pack_session.result store.told (returns-in-Ok-clause-exits g c store)

pub returns-in-Ok-clause-complete : goal.returns-in-Ok-clause-complete
returns-in-Ok-clause-complete g c =
    λ store at_sink at_disk none.
    pack_complete g.A.StoredSession c.pack_session.result (g.D.Disk.room c.args.disk.now) store.payloads store.state store.version (returns-in-Ok-clause-causes g c store)
    (λ e. at_sink (c.pack_session.ensures.sink_fault e)) (λ e. at_disk (returns-in-Ok-clause-disk_fault g c e)) none

pub returns-in-Ok-clause-refused : goal.returns-in-Ok-clause-refused
returns-in-Ok-clause-refused g c = λ other. absurd (c.in-Ok.ensures.refused other)

-- ---- the store was not opened

pub returns-in-Err-clause-packs : goal.returns-in-Err-clause-packs
returns-in-Err-clause-packs g c = λ store f. absurd (c.refuse_store.ensures.unfinished f)

pub returns-in-Err-clause-safe : goal.returns-in-Err-clause-safe
returns-in-Err-clause-safe g c =
    let disk = g.D.Disk in
    let sink = g.K.Sink in
    let session = g.A.StoredSession in
    let hold = images_held disk g.met.D.Disk.content_is_image in
    let reads = reads_held disk in
    let laws = g.met.A.StoredSession in
    let k = c.args.sink.now in
    let d = c.args.disk.now in
    let d1 = c.open_store.new.disk in
    let k' = c.refuse_store.new.sink in
    let status = c.refuse_store.result in
    let fault = c.in-Err.fault in
    let ends = c.refuse_store.ensures.ends in
    λ store.
    elim (c.in-Err.ensures.held store) [
      | inl failed ↦
          let at_disk = unopened_at_disk sink k k' status fault (same_fault fault DiskFault failed) ends in
          inl (at_disk.0, record { given = at_disk.1; only = c.in-Err.ensures.opening.unwritten.only; moments = c.in-Err.ensures.opening.moments })
      | inr now ↦ inr (safe_kept sink disk hold session reads laws.version_stands laws.snapshot_stands laws.version_counts laws.snapshot_counts d d1 store.payloads store.state store.version store.stands (disk.images d) now c.in-Err.ensures.opening.moments)
    ]

pub returns-in-Err-clause-exits : goal.returns-in-Err-clause-exits
returns-in-Err-clause-exits g c =
    let disk = g.D.Disk in
    let sink = g.K.Sink in
    let session = g.A.StoredSession in
    let hold = images_held disk g.met.D.Disk.content_is_image in
    let reads = reads_held disk in
    let laws = g.met.A.StoredSession in
    let k = c.args.sink.now in
    let d = c.args.disk.now in
    let d1 = c.open_store.new.disk in
    let k' = c.refuse_store.new.sink in
    let status = c.refuse_store.result in
    let fault = c.in-Err.fault in
    let ends = c.refuse_store.ensures.ends in
    λ store. inr (c.in-Err.ensures.opening.unwritten, fails_to_open sink disk k k' d d1 status fault (c.in-Err.ensures.opened store) (λ e. c.in-Err.ensures.sure (ap (λ (x : OpenFault). Err x) e)) ends)

pub returns-in-Err-clause-disk_fault : goal.returns-in-Err-clause-disk_fault
returns-in-Err-clause-disk_fault g c = λ e. c.in-Err.ensures.cause (ap (λ (x : OpenFault). Err x) (c.refuse_store.ensures.disk_fault e))

pub returns-in-Err-clause-causes : goal.returns-in-Err-clause-causes
returns-in-Err-clause-causes g c =
    λ store.
    pack_cause g.K.Sink g.D.Disk g.A.StoredSession store.payloads store.state store.version c.args.sink.now c.refuse_store.new.sink c.args.disk.now c.open_store.new.disk
    store.bytes c.refuse_store.result store.told (returns-in-Err-clause-exits g c store)

pub returns-in-Err-clause-complete : goal.returns-in-Err-clause-complete
returns-in-Err-clause-complete g c =
    λ store at_sink at_disk none.
    pack_complete g.A.StoredSession c.refuse_store.result (g.D.Disk.room c.args.disk.now) store.payloads store.state store.version (returns-in-Err-clause-causes g c store)
    (λ e. at_sink (c.refuse_store.ensures.sink_fault e)) (λ e. at_disk (returns-in-Err-clause-disk_fault g c e)) none

pub returns-in-Err-clause-refused : goal.returns-in-Err-clause-refused
returns-in-Err-clause-refused g c =
    let disk = g.D.Disk in
    let sink = g.K.Sink in
    let session = g.A.StoredSession in
    let hold = images_held disk g.met.D.Disk.content_is_image in
    let reads = reads_held disk in
    let laws = g.met.A.StoredSession in
    let k = c.args.sink.now in
    let d = c.args.disk.now in
    let d1 = c.open_store.new.disk in
    let k' = c.refuse_store.new.sink in
    let status = c.refuse_store.result in
    let fault = c.in-Err.fault in
    let ends = c.refuse_store.ensures.ends in
    λ other. (c.in-Err.ensures.opening.unwritten, ends_refused sink disk k k' d d1 status fault other.reason (c.in-Err.ensures.refused other) (λ e. c.in-Err.ensures.sure (ap (λ (x : OpenFault). Err x) e)) ends)
