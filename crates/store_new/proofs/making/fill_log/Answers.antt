use Rattle.std.proofs.Common.{Err, ap}
use Rattle.gate_log.specs.declared.fault.LogFault.{LogFault}
use Rattle.store_new.proofs.Appending.{holds}
use Rattle.store_new.proofs.MakingEnds.{ends_stored, ends_stopped, fault_of, never_disk}
use Rattle.store_new.proofs.making.fill_log.Goals as goal

pub returns-in-Ok-clause-ends : goal.returns-in-Ok-clause-ends
returns-in-Ok-clause-ends g c =
    let disk = g.D.Disk in
    let d = c.append_all.new.disk in
    ends_stored g.K.Sink disk c.args.sink.now c.give_line.new.sink c.args.disk.now d c.give_line.result c.args.payloads.now c.args.lines.now
    (holds disk g.met.D.Disk.content_is_image d c.append_all.new.log c.args.payloads.now c.in-Ok.ensures.stored c.in-Ok.ensures.ends_there) c.give_line.ensures.gives

pub returns-in-Err-clause-ends : goal.returns-in-Err-clause-ends
returns-in-Err-clause-ends g c =
    ends_stopped g.K.Sink g.D.Disk c.args.sink.now c.end_stopped.new.sink c.args.disk.now c.append_all.new.disk c.end_stopped.result c.args.payloads.now c.args.lines.now c.in-Err.fault
    c.in-Err.ensures.stopped c.end_stopped.ensures.ends

pub returns-in-Ok-clause-disk_fault : goal.returns-in-Ok-clause-disk_fault
returns-in-Ok-clause-disk_fault g c = λ e. absurd (never_disk g.K.Sink c.args.sink.now c.give_line.new.sink c.args.lines.now c.give_line.result c.give_line.ensures.gives e)

pub returns-in-Err-clause-disk_fault : goal.returns-in-Err-clause-disk_fault
returns-in-Err-clause-disk_fault g c =
    λ e. c.in-Err.ensures.cause (ap (λ (x : LogFault). Err x)
    (fault_of g.K.Sink g.D.Disk c.args.sink.now c.end_stopped.new.sink c.args.disk.now c.append_all.new.disk c.end_stopped.result c.args.payloads.now c.in-Err.fault c.in-Err.ensures.stopped
    c.end_stopped.ensures.ends e))
