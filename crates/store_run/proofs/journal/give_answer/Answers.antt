use Rattle.std.proofs.Common.{◌≡◌, subst}
use Rattle.std.specs.Prelude.{IfErr, OnOk}
use Rattle.lens_io.specs.Calls.{Gave, GaveFront}
use Rattle.store_run.specs.declared.stop.Stop.TheVariants.{SinkFault}
use Rattle.store_run.proofs.Effects.{line_answered, line_refused}
use Rattle.store_run.proofs.StoredPayloads.{images_held}
use Rattle.store_run.proofs.journal.give_answer.Goals as goal

pub returns-in-None-clause-stopped : goal.returns-in-None-clause-stopped
returns-in-None-clause-stopped g c =
    let disk = g.D.Disk in
    let sink = g.K.Sink in
    let only = g.met.D.Disk.only_now in
    let hold = images_held disk g.met.D.Disk.content_is_image in
    let k = c.args.sink.now in
    let k' = c.give_line.new.sink in
    let r = c.give_line.result in
    line_refused sink disk only hold r k k' c.args.disk.now c.args.log.now c.args.answer.now.line c.args.answer.now.payload c.in-None.is
    (subst (λ line. IfErr r (λ stop. (stop ≡ SinkFault) × GaveFront sink k k' line)) c.as_slice-in-None.ensures c.give_line.ensures.front)

pub returns-in-None-clause-added : goal.returns-in-None-clause-added
returns-in-None-clause-added g c =
    let disk = g.D.Disk in
    let sink = g.K.Sink in
    let only = g.met.D.Disk.only_now in
    let hold = images_held disk g.met.D.Disk.content_is_image in
    let k = c.args.sink.now in
    let k' = c.give_line.new.sink in
    let r = c.give_line.result in
    line_answered sink disk only hold r k k' c.args.disk.now c.args.log.now c.args.answer.now.line c.args.answer.now.payload c.in-None.is
    (subst (λ line. OnOk r (Gave sink k k' line)) c.as_slice-in-None.ensures c.give_line.ensures.given)
