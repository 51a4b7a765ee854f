use Rattle.std.proofs.Common.{inl, inr, ℕ, Option, IfSome, subst, arith}
use Rattle.lens_io.proofs.Increases.{increased_since}
use Rattle.store_run.proofs.Openings.{opening_none}
use Rattle.store_new.proofs.Commands.{unwritten_by}
use Rattle.store_new.specs.NewRooms.{PlanHasNoRoom}
use Rattle.store_copy.specs.NewPayloads.{IsPlanned}
use Rattle.store_copy.proofs.RemakeEndsHold.{failed_first, finds_other, given_quiet, keeps_empty, keeps_failed, keeps_given, never_at_disk, no_bytes, other_failed, remade_behind, room_unknown, some_bytes, store_remade, unmade_behind}
use Rattle.store_run.specs.Refusals.{refusal_line}
use Rattle.store_run.specs.declared.refusals.StoreRefusal.TheVariants.{LogExists}
use Rattle.command_ends.specs.declared.status.Status.TheVariants.{DiskFault}
use Rattle.store_copy.proofs.remaking.remake.Goals as goal

-- ---- the other disk is empty

pub returns-in-Ok-eq0-clause-remakes : goal.returns-in-Ok-eq0-clause-remakes
returns-in-Ok-eq0-clause-remakes g c =
    let sink = g.K.Sink in
    let from = g.D.Disk in
    let to = g.E.Disk in
    let session = g.A.StoredSession in
    let beginning = g.A.RemadeSession.beginning in
    let earlier = g.A.RemadeSession.earlier in
    let k = c.args.sink.now in
    let k' = c.remake_empty.new.sink in
    let d = c.args.from.now in
    let d' = c.remake_empty.new.from in
    let e = c.args.to.now in
    let e1 = c.len.new.self in
    let e' = c.remake_empty.new.to in
    let status = c.remake_empty.result in
    let r = c.remake_empty.ensures in
    let u = unwritten_by to e e1 c.len.ensures.content c.len.ensures.images c.len.ensures.unwritten in
    λ allowed.
    record {
      of_store = λ store.
          store_remade sink from to k k' d d' status e e' (IsPlanned session beginning earlier c.args.way store.payloads store.state store.version)
          (remade_behind sink from to k k' d d' status e e' e1 u c.len.ensures.room (IsPlanned session beginning earlier c.args.way store.payloads store.state store.version) (r.ends allowed store))
          (λ is. elim (r.room allowed store is) [
            | inl x ↦ inl x
            | inr x ↦ inr (subst (λ (o : Option ℕ). IfSome o (PlanHasNoRoom (IsPlanned session beginning earlier c.args.way store.payloads store.state store.version))) c.len.ensures.room x)
          ])
          r.sink_fault
          (λ is. elim (r.disk_fault is) [ inl x ↦ inl x | inr x ↦ inr (increased_since (to.faults e) (to.faults e1) (to.faults e') c.len.ensures.cause.later x) ]);
      refuses = λ other. unmade_behind sink from to k k' d d' status e e' e1 u c.len.ensures.room other.reason (r.refused other);
      exists = keeps_empty sink from to k k' d d' status e e' (no_bytes (to.content e) c.in-Ok-eq0.field-0 c.in-Ok-eq0.field-0-test c.in-Ok-eq0.ensures.count);
      only_reads = r.opening.unwritten;
      survives = r.opening.moments;
    }

pub returns-in-Ok-eq0-clause-disk_fault : goal.returns-in-Ok-eq0-clause-disk_fault
returns-in-Ok-eq0-clause-disk_fault g c =
    let faults = g.E.Disk.faults in
    λ is.
    elim (c.remake_empty.ensures.disk_fault is) [
      | inl x ↦ inl x
      | inr x ↦ inr (increased_since (faults c.args.to.now) (faults c.len.new.self) (faults c.remake_empty.new.to) c.len.ensures.cause.later x)
    ]

-- ---- the other disk is not empty

pub returns-in-Ok-clause-remakes : goal.returns-in-Ok-clause-remakes
returns-in-Ok-clause-remakes g c =
    let sink = g.K.Sink in
    let from = g.D.Disk in
    let to = g.E.Disk in
    let session = g.A.StoredSession in
    let k = c.args.sink.now in
    let k' = c.give_line.new.sink in
    let d = c.args.from.now in
    let e = c.args.to.now in
    let e1 = c.len.new.self in
    let status = c.give_line.result in
    let given = c.give_line.ensures.gives in
    let u = unwritten_by to e e1 c.len.ensures.content c.len.ensures.images c.len.ensures.unwritten in
    let some = some_bytes (to.content e) c.in-Ok.field-0 (λ z. omega (arith, z, c.in-Ok.field-0-test)) c.in-Ok.ensures.count in
    let taken = finds_other sink to k k' e e1 status some u given in
    let opening = opening_none from g.met.D.Disk.only_now d in
    λ allowed.
    record {
      of_store = λ store.
          store_remade sink from to k k' d d status e e1 (IsPlanned session g.A.RemadeSession.beginning g.A.RemadeSession.earlier c.args.way store.payloads store.state store.version) (inl taken)
          (λ is. absurd (never_at_disk sink k k' status given is)) (other_failed sink k k' status c.give_line.ensures.sink_fault) (λ is. absurd (never_at_disk sink k k' status given is));
      refuses = λ other. inl taken;
      exists = keeps_given sink from to k k' d d status e e1 u given;
      only_reads = opening.unwritten;
      survives = opening.moments;
    }

pub returns-in-Ok-clause-statuses : goal.returns-in-Ok-clause-statuses
returns-in-Ok-clause-statuses g c = given_quiet g.K.Sink g.E.Disk c.args.sink.now c.give_line.new.sink c.args.to.now c.len.new.self (refusal_line LogExists) c.give_line.result c.give_line.ensures.gives

pub returns-in-Ok-clause-sink_fault : goal.returns-in-Ok-clause-sink_fault
returns-in-Ok-clause-sink_fault g c = other_failed g.K.Sink c.args.sink.now c.give_line.new.sink c.give_line.result c.give_line.ensures.sink_fault

pub returns-in-Ok-clause-disk_fault : goal.returns-in-Ok-clause-disk_fault
returns-in-Ok-clause-disk_fault g c = λ is. absurd (never_at_disk g.K.Sink c.args.sink.now c.give_line.new.sink c.give_line.result c.give_line.ensures.gives is)

-- ---- the other disk failed

pub returns-in-Err-clause-remakes : goal.returns-in-Err-clause-remakes
returns-in-Err-clause-remakes g c =
    let sink = g.K.Sink in
    let from = g.D.Disk in
    let to = g.E.Disk in
    let session = g.A.StoredSession in
    let k = c.args.sink.now in
    let d = c.args.from.now in
    let e = c.args.to.now in
    let e1 = c.len.new.self in
    let u = unwritten_by to e e1 c.len.ensures.content c.len.ensures.images c.len.ensures.unwritten in
    let fails = failed_first sink from to k d e e1 u c.in-Err.ensures.sure in
    let opening = opening_none from g.met.D.Disk.only_now d in
    λ allowed.
    record {
      of_store = λ store.
          store_remade sink from to k k d d DiskFault e e1 (IsPlanned session g.A.RemadeSession.beginning g.A.RemadeSession.earlier c.args.way store.payloads store.state store.version) (inr (inl fails))
          (λ is. inr (room_unknown (to.room e) _ c.in-Err.ensures.sure)) (λ is. cc) (λ is. inr c.in-Err.ensures.cause.failed);
      refuses = λ other. inr (inl fails);
      exists = keeps_failed sink from to k d e e1 u;
      only_reads = opening.unwritten;
      survives = opening.moments;
    }

pub returns-in-Err-clause-disk_fault : goal.returns-in-Err-clause-disk_fault
returns-in-Err-clause-disk_fault g c = λ is. inr c.in-Err.ensures.cause.failed
