use Rattle.std.proofs.Common.{inl, inr, Err, ap}
use Rattle.store_run.proofs.StoreOpenings.{ends_refused, fails_to_open}
use Rattle.store_run.specs.declared.opening.OpenFault.{OpenFault}
use Rattle.store_new.proofs.NewRoomsHold.{no_room_for_plan}
use Rattle.store_copy.specs.NewPayloads.{IsPlanned}
use Rattle.store_copy.proofs.RemakeEndsHold.{fails_before, remade, store_quiet, unmade}
use Rattle.store_copy.proofs.remaking.remake_empty.Goals as goal

-- ---- the store was read

pub returns-in-Ok-clause-ends : goal.returns-in-Ok-clause-ends
returns-in-Ok-clause-ends g c =
    let text = c.in-Ok.text in
    λ allowed store.
    remade g.K.Sink g.D.Disk g.E.Disk c.args.sink.now c.make_store.new.sink c.args.from.now c.read_text.new.disk c.make_store.result c.args.to.now c.make_store.new.disk
    (IsPlanned g.A.StoredSession g.A.RemadeSession.beginning g.A.RemadeSession.earlier c.args.way store.payloads store.state store.version) text.payloads text.lines.items (c.in-Ok.ensures.made allowed store) c.requires.empty
    (rw c.deref.ensures.value at c.make_store.ensures.ends)

pub returns-in-Ok-clause-room : goal.returns-in-Ok-clause-room
returns-in-Ok-clause-room g c =
    let text = c.in-Ok.text in
    λ allowed store is.
    inr (no_room_for_plan (g.E.Disk.room c.args.to.now) (IsPlanned g.A.StoredSession g.A.RemadeSession.beginning g.A.RemadeSession.earlier c.args.way store.payloads store.state store.version) text.payloads text.lines.items
    (c.in-Ok.ensures.made allowed store) (c.make_store.ensures.room is))

pub returns-in-Ok-clause-refused : goal.returns-in-Ok-clause-refused
returns-in-Ok-clause-refused g c = λ other. absurd (c.in-Ok.ensures.refused other)

pub returns-in-Ok-clause-opening : goal.returns-in-Ok-clause-opening
returns-in-Ok-clause-opening g c = c.in-Ok.ensures.opening

pub returns-in-Ok-clause-statuses : goal.returns-in-Ok-clause-statuses
returns-in-Ok-clause-statuses g c =
    let text = c.in-Ok.text in
    store_quiet g.K.Sink g.E.Disk c.args.sink.now c.make_store.new.sink c.args.to.now c.make_store.new.disk text.payloads text.lines.items c.make_store.result
    (rw c.deref.ensures.value at c.make_store.ensures.ends)

pub returns-in-Ok-clause-disk_fault : goal.returns-in-Ok-clause-disk_fault
returns-in-Ok-clause-disk_fault g c = λ is. inr (c.make_store.ensures.disk_fault is)

-- ---- the store was not read

pub returns-in-Err-clause-ends : goal.returns-in-Err-clause-ends
returns-in-Err-clause-ends g c =
    let sink = g.K.Sink in
    let from = g.D.Disk in
    let k = c.args.sink.now in
    let k' = c.refuse_store.new.sink in
    let d = c.args.from.now in
    let d' = c.read_text.new.disk in
    let status = c.refuse_store.result in
    λ allowed store.
    inr (inl (fails_before sink from g.E.Disk k k' d d' status c.args.to.now
    (fails_to_open sink from k k' d d' status c.in-Err.fault (c.in-Err.ensures.made allowed store) (λ e. c.in-Err.ensures.sure (ap (λ (x : OpenFault). Err x) e)) c.refuse_store.ensures.ends)))

pub returns-in-Err-clause-room : goal.returns-in-Err-clause-room
returns-in-Err-clause-room g c = λ allowed store is. inl (c.in-Err.ensures.sure (ap (λ (x : OpenFault). Err x) (c.refuse_store.ensures.disk_fault is)))

pub returns-in-Err-clause-refused : goal.returns-in-Err-clause-refused
returns-in-Err-clause-refused g c =
    let sink = g.K.Sink in
    let from = g.D.Disk in
    let k = c.args.sink.now in
    let k' = c.refuse_store.new.sink in
    let d = c.args.from.now in
    let d' = c.read_text.new.disk in
    let status = c.refuse_store.result in
    λ other.
    unmade sink from g.E.Disk k k' d d' status c.args.to.now other.reason
    (ends_refused sink from k k' d d' status c.in-Err.fault other.reason (c.in-Err.ensures.refused other) (λ e. c.in-Err.ensures.sure (ap (λ (x : OpenFault). Err x) e)) c.refuse_store.ensures.ends)

pub returns-in-Err-clause-opening : goal.returns-in-Err-clause-opening
returns-in-Err-clause-opening g c = c.in-Err.ensures.opening

pub returns-in-Err-clause-disk_fault : goal.returns-in-Err-clause-disk_fault
returns-in-Err-clause-disk_fault g c = λ is. inl (c.in-Err.ensures.cause (ap (λ (x : OpenFault). Err x) (c.refuse_store.ensures.disk_fault is)))
