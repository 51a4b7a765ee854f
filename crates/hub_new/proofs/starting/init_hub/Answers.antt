use Rattle.std.proofs.Common.{arith, inl, inr}
use Rattle.lens_io.proofs.Increases.{increased_since}
use Rattle.store_new.proofs.Commands.{ends_behind, finds_store, unwritten_by}
use Rattle.store_new.proofs.CommandStatuses.{complete, given_with, init_among, other_line, refuses_at_once, refuses_nothing}
use Rattle.command_ends.specs.declared.status.Status.TheVariants.{StoreRefused, DiskFault}
use Rattle.store_run.specs.Refusals.{refusal_line}
use Rattle.hub_new.specs.HubParts.{view_programs}
use Rattle.store_run.specs.declared.refusals.StoreRefusal.TheVariants.{LogExists}
use Rattle.hub_new.specs.HubInit.{hub_command}
use Rattle.hub_new.proofs.HubInitEnds.{accepts, refuses, starts}
use Rattle.hub_new.proofs.starting.init_hub.Goals as goal

pub returns-in-Ok-eq0-clause-starts : goal.returns-in-Ok-eq0-clause-starts
returns-in-Ok-eq0-clause-starts g c =
    let disk = g.D.Disk in
    let s = c.args.source.now in
    let s' = c.init_empty.new.source in
    let k = c.args.sink.now in
    let k' = c.init_empty.new.sink in
    let d = c.args.disk.now in
    let d1 = c.len.new.self in
    let d' = c.init_empty.new.disk in
    let status = c.init_empty.result in
    let ends = ends_behind g.S.Source g.K.Sink disk hub_command s s' k k' d d1 d' status (unwritten_by disk d d1 c.len.ensures.content c.len.ensures.images c.len.ensures.unwritten) c.init_empty.ensures.ends in
    starts g.S.Source g.K.Sink disk s s' k k' d d' status ends

pub returns-in-Ok-eq0-clause-ends : goal.returns-in-Ok-eq0-clause-ends
returns-in-Ok-eq0-clause-ends g c =
    let disk = g.D.Disk in
    let d = c.args.disk.now in
    let d1 = c.len.new.self in
    ends_behind g.S.Source g.K.Sink disk hub_command c.args.source.now c.init_empty.new.source c.args.sink.now c.init_empty.new.sink d d1 c.init_empty.new.disk c.init_empty.result
    (unwritten_by disk d d1 c.len.ensures.content c.len.ensures.images c.len.ensures.unwritten) c.init_empty.ensures.ends

pub returns-in-Ok-eq0-clause-at_once : goal.returns-in-Ok-eq0-clause-at_once
returns-in-Ok-eq0-clause-at_once g c =
    refuses_at_once g.S.Source g.K.Sink g.D.Disk hub_command accepts refuses c.args.source.now c.init_empty.new.source c.args.sink.now c.init_empty.new.sink c.len.new.self c.init_empty.new.disk c.init_empty.result c.init_empty.ensures.ends

pub returns-in-Ok-eq0-clause-complete : goal.returns-in-Ok-eq0-clause-complete
returns-in-Ok-eq0-clause-complete g c =
    let disk = g.D.Disk in
    let s = c.args.source.now in
    let s' = c.init_empty.new.source in
    let k = c.args.sink.now in
    let k' = c.init_empty.new.sink in
    let d = c.args.disk.now in
    let d1 = c.len.new.self in
    let d' = c.init_empty.new.disk in
    let status = c.init_empty.result in
    let ends = ends_behind g.S.Source g.K.Sink disk hub_command s s' k k' d d1 d' status (unwritten_by disk d d1 c.len.ensures.content c.len.ensures.images c.len.ensures.unwritten) c.init_empty.ensures.ends in
    complete g.S.Source g.K.Sink disk hub_command accepts refuses s s' k k' d d' status ends c.init_empty.ensures.source_fault c.init_empty.ensures.sink_fault
    (λ e. increased_since (disk.faults d) (disk.faults d1) (disk.faults d') c.len.ensures.cause.later (c.init_empty.ensures.disk_fault e))

pub returns-in-Ok-clause-ends : goal.returns-in-Ok-clause-ends
returns-in-Ok-clause-ends g c =
    let disk = g.D.Disk in
    let d = c.args.disk.now in
    let d1 = c.len.new.self in
    finds_store g.S.Source g.K.Sink disk hub_command c.args.source.now c.args.sink.now c.give_line.new.sink d d1 c.in-Ok.field-0 c.give_line.result c.in-Ok.ensures.count
    (λ e. omega (arith, e, c.in-Ok.field-0-test)) (unwritten_by disk d d1 c.len.ensures.content c.len.ensures.images c.len.ensures.unwritten) c.give_line.ensures.gives

pub returns-in-Ok-clause-at_once : goal.returns-in-Ok-clause-at_once
returns-in-Ok-clause-at_once g c =
    refuses_nothing view_programs g.S.Source c.args.source.now c.give_line.result (λ is. other_line g.K.Sink c.args.sink.now c.give_line.new.sink c.give_line.result c.give_line.ensures.gives is)

pub returns-in-Err-clause-at_once : goal.returns-in-Err-clause-at_once
returns-in-Err-clause-at_once g c = refuses_nothing view_programs g.S.Source c.args.source.now DiskFault (λ is. cc)

pub returns-in-Ok-eq0-clause-statuses : goal.returns-in-Ok-eq0-clause-statuses
returns-in-Ok-eq0-clause-statuses g c =
    init_among g.S.Source g.K.Sink g.D.Disk hub_command c.args.source.now c.init_empty.new.source c.args.sink.now c.init_empty.new.sink c.len.new.self c.init_empty.new.disk
    (λ bytes line never. never) c.init_empty.result c.init_empty.ensures.ends

pub returns-in-Ok-clause-statuses : goal.returns-in-Ok-clause-statuses
returns-in-Ok-clause-statuses g c =
    elim (given_with g.K.Sink c.args.sink.now c.give_line.new.sink (refusal_line LogExists) StoreRefused c.give_line.result c.give_line.ensures.gives) [
      | inl x ↦ inr (inr (inl x))
      | inr x ↦ inr (inr (inr (inr (inl x))))
    ]
