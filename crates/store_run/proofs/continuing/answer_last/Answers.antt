use Rattle.std.proofs.Common.{◌≡◌, None, sym, subst, ◌∙◌}
use Rattle.std.specs.Prelude.{option_to_list, Option}
use Rattle.edit_journal.specs.Pieces.{last_line}
use Rattle.edit_journal.specs.declared.line.Line.{Line}
use Rattle.store_run.specs.Answered.{Answers}
use Rattle.store_run.proofs.AnsweredLines.{answers_none}
use Rattle.store_run.proofs.StoredPayloads.{images_held}
use Rattle.store_run.proofs.continuing.answer_last.Goals as goal

pub returns-in_default-clause-answered : goal.returns-in_default-clause-answered
returns-in_default-clause-answered g c =
    let disk = g.D.Disk in
    let sink = g.K.Sink in
    let only = g.met.D.Disk.only_now in
    let hold = images_held disk g.met.D.Disk.content_is_image in
    let session = g.A.StoredSession in
    let state = session.state in
    let k = c.args.sink.now in
    let d = c.args.disk.now in
    let l = c.args.log.now in
    let t = state c.args.session.now in
    let p = c.args.progress in
    let none : last_line c.args.input.lines.begun ≡ None = sym c.last.ensures ∙ c.in_default.is in
    subst (λ (o : Option Line). Answers sink disk session (k, d, l) (k, d, l) t p (option_to_list o) t p) (sym none) (answers_none sink disk session only hold k d l t p)
