use Rattle.std.proofs.Common.{inl, inr, sym, subst}
use Rattle.program_accepted.specs.Program.{lens_of}
use Rattle.lens_forms.specs.Forms.{form_tree}
use Rattle.program_terms.specs.Views.{program_tree}
use Rattle.script_input.specs.Lines.{program_part}
use Rattle.store_new.specs.NewEnds.{Ends}
use Rattle.store_new.proofs.Commands.{ends_front, ends_refused}
use Rattle.store_new.specs.Init.{init_command}
use Rattle.store_new.proofs.InitEnds.{begins_no_room, begun, never_device}
use Rattle.store_new.proofs.starting.init_empty.Goals as goal
use Rattle.store_run.specs.Devices.{devices_of}

pub returns-in-Ok-clause-ends : goal.returns-in-Ok-clause-ends
returns-in-Ok-clause-ends g c =
    let accepted = c.in-Ok.accepted in
    begun g.S.Source g.K.Sink g.D.Disk c.args.source.now c.read_script.new.source c.args.sink.now c.begin.new.sink c.args.disk.now c.begin.new.disk c.begin.result
    (program_tree accepted.program) (form_tree accepted.lens) c.in-Ok.ensures.script c.requires.empty c.begin.ensures.ends

pub refuse_program-requires : goal.refuse_program-requires
refuse_program-requires g c = (rw c.in-Err-Refused.field-0-is at c.in-Err-Refused.ensures.script).known

pub returns-in-Err-Refused-clause-ends : goal.returns-in-Err-Refused-clause-ends
returns-in-Err-Refused-clause-ends g c =
    let r = rw c.in-Err-Refused.field-0-is at c.in-Err-Refused.ensures.script in
    ends_refused g.S.Source g.K.Sink g.D.Disk init_command c.args.source.now c.read_script.new.source c.args.sink.now c.refuse_program.new.sink c.args.disk.now r.bytes c.refuse_program.result r.took
    r.at_most r.whole c.requires.empty (c.refuse_program.ensures.refuses (lens_of (program_part r.bytes)) r.is)

pub returns-in-Err-Stopped-clause-ends : goal.returns-in-Err-Stopped-clause-ends
returns-in-Err-Stopped-clause-ends g c =
    let r = rw c.in-Err-Stopped.field-0-is at c.in-Err-Stopped.ensures.script in
    let s = c.args.source.now in
    let s' = c.read_script.new.source in
    let k = c.args.sink.now in
    let d = c.args.disk.now in
    subst (λ status. Ends g.S.Source g.K.Sink g.D.Disk init_command (devices_of s k d) (devices_of s' k d) status) (sym c.status_at.ensures)
    (ends_front g.S.Source g.K.Sink g.D.Disk init_command s s' k d c.in-Err-Stopped.fault r)

pub returns-in-Err-Refused-clause-source_fault : goal.returns-in-Err-Refused-clause-source_fault
returns-in-Err-Refused-clause-source_fault g c =
    let r = rw c.in-Err-Refused.field-0-is at c.in-Err-Refused.ensures.script in
    let outcome = lens_of (program_part r.bytes) in
    λ e. absurd (never_device g.K.Sink c.args.sink.now c.refuse_program.new.sink outcome c.refuse_program.result (c.refuse_program.ensures.refuses outcome r.is) (inl e))

pub returns-in-Err-Refused-clause-disk_fault : goal.returns-in-Err-Refused-clause-disk_fault
returns-in-Err-Refused-clause-disk_fault g c =
    let r = rw c.in-Err-Refused.field-0-is at c.in-Err-Refused.ensures.script in
    let outcome = lens_of (program_part r.bytes) in
    λ e. absurd (never_device g.K.Sink c.args.sink.now c.refuse_program.new.sink outcome c.refuse_program.result (c.refuse_program.ensures.refuses outcome r.is) (inr e))

pub returns-in-Ok-clause-room : goal.returns-in-Ok-clause-room
returns-in-Ok-clause-room g c =
    let accepted = c.in-Ok.accepted in
    λ e. begins_no_room g.S.Source (g.D.Disk.room c.args.disk.now) c.args.source.now c.read_script.new.source (program_tree accepted.program) (form_tree accepted.lens) c.in-Ok.ensures.script
    (c.begin.ensures.room e)

pub returns-in-Err-Refused-clause-room : goal.returns-in-Err-Refused-clause-room
returns-in-Err-Refused-clause-room g c =
    let r = rw c.in-Err-Refused.field-0-is at c.in-Err-Refused.ensures.script in
    let outcome = lens_of (program_part r.bytes) in
    λ e. absurd (never_device g.K.Sink c.args.sink.now c.refuse_program.new.sink outcome c.refuse_program.result (c.refuse_program.ensures.refuses outcome r.is) (inr e))
