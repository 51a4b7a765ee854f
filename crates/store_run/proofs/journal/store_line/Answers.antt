use Rattle.std.proofs.Common.{sym, ◌∙◌}
use Rattle.store_run.proofs.AnsweredLines.{answers_blank}
use Rattle.store_run.proofs.StoredPayloads.{images_held}
use Rattle.store_run.proofs.journal.store_line.Goals as goal

pub returns-then-is_blank-clause-answered : goal.returns-then-is_blank-clause-answered
returns-then-is_blank-clause-answered g c =
    let disk = g.D.Disk in
    let sink = g.K.Sink in
    let only = g.met.D.Disk.only_now in
    let hold = images_held disk g.met.D.Disk.content_is_image in
    let session = g.A.StoredSession in
    let state = session.state in
    answers_blank sink disk session only hold c.args.sink.now c.args.disk.now c.args.log.now (state c.args.session.now) c.args.progress.now c.args.line.now (sym c.is_blank.ensures ∙ c.if-is_blank.true)
