use Rattle.std.proofs.Common.{◌≡◌, ◌+◌, ◌∷◌, [], ◌||◌, not}
use Rattle.std.specs.Prelude.{option_to_list, is_some}
use Rattle.store_run.specs.Answered.{Answers, StopsAmong}
use Rattle.store_run.specs.Effects.{Adds, StopsStoring}
use Rattle.store_run.proofs.AnsweredLines.{answers_one, stops_before, stops_at}
use Rattle.store_run.proofs.Outcomes.{if_err}
use Rattle.store_run.proofs.StoredPayloads.{images_held}
use Rattle.store_run.proofs.journal.answer_item.Goals as goal
use Rattle.texts.proofs.Outcomes.{on_ok_of_three}

pub returns-in_default-clause-stopped : goal.returns-in_default-clause-stopped
returns-in_default-clause-stopped g c =
    let disk = g.D.Disk in
    let sink = g.K.Sink in
    let only = g.met.D.Disk.only_now in
    let hold = images_held disk g.met.D.Disk.content_is_image in
    let session = g.A.StoredSession in
    let state = session.state in
    stops_before sink disk session only hold c.args.sink.now c.args.disk.now c.args.log.now (state c.args.session.now) c.args.progress.now.number (c.args.line.now ∷ [])

pub returns-clause-answered : goal.returns-clause-answered
returns-clause-answered g c =
    let disk = g.D.Disk in
    let sink = g.K.Sink in
    let only = g.met.D.Disk.only_now in
    let hold = images_held disk g.met.D.Disk.content_is_image in
    let session = g.A.StoredSession in
    let state = session.state in
    let a = c.in-Ok.answer in
    let k = c.args.sink.now in
    let d = c.args.disk.now in
    let l = c.args.log.now in
    let k' = c.finish_item.new.sink in
    let d' = c.finish_item.new.disk in
    let l' = c.finish_item.new.log in
    let t = state c.args.session.now in
    let t' = state c.answer.new.self in
    let p = c.args.progress.now in
    let p' = c.finish_item.new.progress in
    let line = c.args.line.now in
    on_ok_of_three c.finish_item.result (Adds sink disk (k, d, l) (k', d', l') a.line (option_to_list a.payload)) (p'.number ≡ p.number + 1) (p'.refused ≡ (p.refused || not (is_some a.payload)))
    (Answers sink disk session (k, d, l) (k', d', l') t p (line ∷ []) t' p')
    (λ adds number refused. answers_one sink disk session only hold k k' d d' l l' t t' p p' line a c.requires.item c.in-Ok.ensures.answer c.in-Ok.ensures.step c.in-Ok.ensures.is_answer number refused adds)
    c.finish_item.ensures.added c.finish_item.ensures.number c.finish_item.ensures.refused

pub returns-clause-stopped : goal.returns-clause-stopped
returns-clause-stopped g c =
    let disk = g.D.Disk in
    let sink = g.K.Sink in
    let only = g.met.D.Disk.only_now in
    let hold = images_held disk g.met.D.Disk.content_is_image in
    let session = g.A.StoredSession in
    let state = session.state in
    let a = c.in-Ok.answer in
    let k = c.args.sink.now in
    let d = c.args.disk.now in
    let l = c.args.log.now in
    let k' = c.finish_item.new.sink in
    let d' = c.finish_item.new.disk in
    let l' = c.finish_item.new.log in
    let t = state c.args.session.now in
    let t' = state c.answer.new.self in
    let n = c.args.progress.now.number in
    let line = c.args.line.now in
    if_err c.finish_item.result (λ stop. StopsStoring sink disk (k, d, l) (k', d', l') stop [] a.line [] (option_to_list a.payload)) (StopsAmong sink disk session (k, d, l) (k', d', l') t n (line ∷ []))
    (λ stop stops. stops_at sink disk session only hold k k' d d' l l' t t' n line a stop c.requires.item c.in-Ok.ensures.answer c.in-Ok.ensures.step c.in-Ok.ensures.is_answer stops)
    c.finish_item.ensures.stopped
