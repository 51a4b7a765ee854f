use Rattle.std.proofs.Common.{false}
use Rattle.std.specs.Prelude.{option_to_list}
use Rattle.edit_journal.specs.Pieces.{last_line}
use Rattle.store_run.specs.Answered.{Answers, StopsAmong}
use Rattle.store_run.specs.JournalEnds.{EndsJournal, StopsJournal}
use Rattle.store_run.specs.Stopping.{IsOwnStop}
use Rattle.store_run.proofs.ApplyEndsHold.{stops_at_once, ends_journal, stops_last}
use Rattle.store_run.proofs.AnsweredLines.{progress_at}
use Rattle.store_run.proofs.Outcomes.{if_err2}
use Rattle.store_run.proofs.StoredPayloads.{images_held}
use Rattle.store_run.proofs.continuing.answer_journal.Goals as goal
use Rattle.script_input.proofs.Outcomes.{if_ok}

pub returns-in_default-clause-stopped : goal.returns-in_default-clause-stopped
returns-in_default-clause-stopped g c =
    let source = g.S.Source in
    let disk = g.D.Disk in
    let sink = g.K.Sink in
    let only = g.met.D.Disk.only_now in
    let hold = images_held disk g.met.D.Disk.content_is_image in
    let session = g.A.StoredSession in
    let state = session.state in
    stops_at_once source sink disk session only hold c.args.source.now c.args.sink.now c.args.disk.now c.args.log.now (state c.args.session.now)

pub returns-clause-ended : goal.returns-clause-ended
returns-clause-ended g c =
    let source = g.S.Source in
    let disk = g.D.Disk in
    let sink = g.K.Sink in
    let only = g.met.D.Disk.only_now in
    let hold = images_held disk g.met.D.Disk.content_is_image in
    let session = g.A.StoredSession in
    let state = session.state in
    let k = c.args.sink.now in
    let d = c.args.disk.now in
    let l = c.args.log.now in
    let t = state c.args.session.now in
    let p = progress_at 0 false in
    let k' = c.store_pieces.new.sink in
    let d' = c.store_pieces.new.disk in
    let l' = c.store_pieces.new.log in
    let t' = state c.store_pieces.new.session in
    let p' = c.in_ok-progress.progress in
    let k'' = c.answer_last.new.sink in
    let d'' = c.answer_last.new.disk in
    let l'' = c.answer_last.new.log in
    let t'' = state c.answer_last.new.session in
    let i = c.args.source.now in
    let i' = c.store_pieces.new.source in
    let input = c.store_pieces.new.input in
    let lines = option_to_list (last_line input.lines.begun) in
    if_ok c.answer_last.result (Answers sink disk session (k', d', l') (k'', d'', l'') t' p' lines t'') (EndsJournal source sink disk session (i, k, d, l) (i', k'', d'', l'') t p t'')
    (λ p'' a. ends_journal source sink disk session only hold i i' input k k' d d' l l' t t' p p' c.in_ok-progress.ensures.ended k'' d'' l'' t'' p'' a)
    c.answer_last.ensures.answered

pub returns-clause-stopped : goal.returns-clause-stopped
returns-clause-stopped g c =
    let source = g.S.Source in
    let disk = g.D.Disk in
    let sink = g.K.Sink in
    let only = g.met.D.Disk.only_now in
    let hold = images_held disk g.met.D.Disk.content_is_image in
    let session = g.A.StoredSession in
    let state = session.state in
    let k = c.args.sink.now in
    let d = c.args.disk.now in
    let l = c.args.log.now in
    let t = state c.args.session.now in
    let p = progress_at 0 false in
    let k' = c.store_pieces.new.sink in
    let d' = c.store_pieces.new.disk in
    let l' = c.store_pieces.new.log in
    let t' = state c.store_pieces.new.session in
    let p' = c.in_ok-progress.progress in
    let k'' = c.answer_last.new.sink in
    let d'' = c.answer_last.new.disk in
    let l'' = c.answer_last.new.log in
    let t'' = state c.answer_last.new.session in
    let i = c.args.source.now in
    let i' = c.store_pieces.new.source in
    let input = c.store_pieces.new.input in
    let lines = option_to_list (last_line input.lines.begun) in
    if_err2 c.answer_last.result IsOwnStop (StopsAmong sink disk session (k', d', l') (k'', d'', l'') t' p'.number lines) (StopsJournal source sink disk session (i, k, d, l) (i', k'', d'', l'') t 0)
    (λ stop own s. stops_last source sink disk session only hold i i' input k k' d d' l l' t t' p p' c.in_ok-progress.ensures.ended k'' d'' l'' stop own s)
    c.answer_last.ensures.own c.answer_last.ensures.stopped
