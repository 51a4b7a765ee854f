use Rattle.std.proofs.Common.{inl, false, Ok, Some, None, length, refl, ap, subst, ◌∙◌, arith}
use Rattle.edit_journal.specs.Pieces.{FedLines}
use Rattle.script_input.proofs.EndedLines.{count, few_ended}
use Rattle.store_run.specs.Answered.{AnswersThenTakes, StopsPieces}
use Rattle.store_run.proofs.AnsweredLines.{progress_at, comes_first, none_left, comes_turn, ends_turn, stops_turn}
use Rattle.store_run.proofs.ApplyCausesHold.{counted_none, counted_then, counted_passed}
use Rattle.store_run.proofs.InTime.{few_more}
use Rattle.store_run.proofs.Outcomes.{passed_on}
use Rattle.store_run.proofs.StoredPayloads.{images_held}
use Rattle.store_run.proofs.journal.store_pieces.Goals as goal

pub pieces-init : goal.pieces-init
pieces-init g c =
    let source = g.S.Source in
    let disk = g.D.Disk in
    let sink = g.K.Sink in
    let only = g.met.D.Disk.only_now in
    let hold = images_held disk g.met.D.Disk.content_is_image in
    let session = g.A.StoredSession in
    let none = ap (λ (f : FedLines). length f.ended) c.requires.lines in
    record {
      comes = comes_first sink disk session only hold source c.args.source.now c.args.input.now c.args.sink.now c.args.disk.now c.args.log.now (session.state c.args.session.now) (progress_at 0 false) c.requires.lines c.requires.taken;
      few = inl refl;
      counted = counted_none sink disk c.args.sink.now c.args.disk.now;
      source_later = omega arith;
      number = omega (arith, none);
      at_most = omega (arith, c.requires.taken);
      piece = refl;
    }

pub returns-in_err-answer_turn-clause-stopped : goal.returns-in_err-answer_turn-clause-stopped
returns-in_err-answer_turn-clause-stopped g c =
    let source = g.S.Source in
    let disk = g.D.Disk in
    let sink = g.K.Sink in
    let only = g.met.D.Disk.only_now in
    let hold = images_held disk g.met.D.Disk.content_is_image in
    let session = g.A.StoredSession in
    let state = session.state in
    let i = c.args.source.now in
    let k = c.args.sink.now in
    let d = c.args.disk.now in
    let l = c.args.log.now in
    let i' = c.pieces.source in
    let k' = c.pieces.sink in
    let d' = c.pieces.disk in
    let l' = c.pieces.log in
    let i'' = c.answer_turn.new.source in
    let k'' = c.answer_turn.new.sink in
    let d'' = c.answer_turn.new.disk in
    let l'' = c.answer_turn.new.log in
    let input = c.pieces.input in
    let next = c.answer_turn.new.input in
    let t = state c.args.session.now in
    let t' = state c.pieces.session in
    let t'' = state c.answer_turn.new.session in
    let p = progress_at 0 false in
    let p' = c.pieces.progress in
    let p'' = c.answer_turn.new.progress in
    let stop = c.in_err-answer_turn.field-0.0 in
    passed_on c.from_residual.result (StopsPieces source sink disk session (i, k, d, l) (i'', k'', d'', l'') t 0) stop
    (stops_turn sink disk session only hold source i i' i'' input next k k' k'' d d' d'' l l' l'' t t' t'' p p' p'' c.pieces.invariant.comes stop c.pieces.invariant.at_most c.in_err-answer_turn.ensures.stopped)
    c.from_residual.ensures.1

pub pieces-preserved : goal.pieces-preserved
pieces-preserved g c =
    let source = g.S.Source in
    let disk = g.D.Disk in
    let sink = g.K.Sink in
    let only = g.met.D.Disk.only_now in
    let hold = images_held disk g.met.D.Disk.content_is_image in
    let session = g.A.StoredSession in
    let state = session.state in
    let i = c.args.source.now in
    let k = c.args.sink.now in
    let d = c.args.disk.now in
    let l = c.args.log.now in
    let i' = c.pieces.source in
    let k' = c.pieces.sink in
    let d' = c.pieces.disk in
    let l' = c.pieces.log in
    let i'' = c.answer_turn.new.source in
    let k'' = c.answer_turn.new.sink in
    let d'' = c.answer_turn.new.disk in
    let l'' = c.answer_turn.new.log in
    let input = c.pieces.input in
    let next = c.answer_turn.new.input in
    let t = state c.args.session.now in
    let t' = state c.pieces.session in
    let t'' = state c.answer_turn.new.session in
    let p = progress_at 0 false in
    let p' = c.pieces.progress in
    let p'' = c.answer_turn.new.progress in
    let e = c.in_ok-answer_turn.ensures in
    let a = subst (λ more. AnswersThenTakes source sink disk session (i', k', d', l') (i'', k'', d'', l'') input next t' p' t'' p'' (Ok more)) c.if-branch.true e.answered in
    let none = none_left sink disk session only hold source i i' i'' input next k k' k'' d d' d'' l l' l'' t t' t'' p p' p'' c.pieces.invariant.comes _ a in
    record {
      comes = comes_turn sink disk session only hold source i i' i'' input next k k' k'' d d' d'' l l' l'' t t' t'' p p' p'' c.pieces.invariant.comes a;
      few = few_more source i i' i'' (length c.args.piece.now) (length c.pieces.piece) c.pieces.invariant.piece c.pieces.invariant.few e.few;
      counted = counted_then sink disk k k' k'' d d' d'' None c.pieces.invariant.counted e.counted;
      source_later = omega (arith, c.pieces.invariant.source_later, e.source_later);
      number = omega (arith, e.number, c.pieces.invariant.number, a.taken, a.takes.taken, ap count a.takes.grows.lines, few_ended a.mid.lines a.takes.bytes, ap length none);
      at_most = a.takes.at_most;
      piece = c.answer_turn.auto.piece ∙ c.pieces.invariant.piece;
    }

pub returns-clause-ended : goal.returns-clause-ended
returns-clause-ended g c =
    let source = g.S.Source in
    let disk = g.D.Disk in
    let sink = g.K.Sink in
    let only = g.met.D.Disk.only_now in
    let hold = images_held disk g.met.D.Disk.content_is_image in
    let session = g.A.StoredSession in
    let state = session.state in
    let i = c.args.source.now in
    let k = c.args.sink.now in
    let d = c.args.disk.now in
    let l = c.args.log.now in
    let i' = c.pieces.source in
    let k' = c.pieces.sink in
    let d' = c.pieces.disk in
    let l' = c.pieces.log in
    let i'' = c.answer_turn.new.source in
    let k'' = c.answer_turn.new.sink in
    let d'' = c.answer_turn.new.disk in
    let l'' = c.answer_turn.new.log in
    let input = c.pieces.input in
    let next = c.answer_turn.new.input in
    let t = state c.args.session.now in
    let t' = state c.pieces.session in
    let t'' = state c.answer_turn.new.session in
    let p = progress_at 0 false in
    let p' = c.pieces.progress in
    let p'' = c.answer_turn.new.progress in
    let a = subst (λ more. AnswersThenTakes source sink disk session (i', k', d', l') (i'', k'', d'', l'') input next t' p' t'' p'' (Ok more)) c.if-branch.false c.in_ok-answer_turn.ensures.answered in
    ends_turn sink disk session only hold source i i' i'' input next k k' k'' d d' d'' l l' l'' t t' t'' p p' p'' c.pieces.invariant.comes a

pub returns-in_err-answer_turn-clause-few : goal.returns-in_err-answer_turn-clause-few
returns-in_err-answer_turn-clause-few g c =
    few_more g.S.Source c.args.source.now c.pieces.source c.answer_turn.new.source (length c.args.piece.now) (length c.pieces.piece) c.pieces.invariant.piece c.pieces.invariant.few c.in_err-answer_turn.ensures.few

pub returns-clause-few : goal.returns-clause-few
returns-clause-few g c =
    few_more g.S.Source c.args.source.now c.pieces.source c.answer_turn.new.source (length c.args.piece.now) (length c.pieces.piece) c.pieces.invariant.piece c.pieces.invariant.few c.in_ok-answer_turn.ensures.few

pub returns-in_err-answer_turn-clause-counted : goal.returns-in_err-answer_turn-clause-counted
returns-in_err-answer_turn-clause-counted g c =
    let sink = g.K.Sink in
    let disk = g.D.Disk in
    let k = c.args.sink.now in
    let d = c.args.disk.now in
    let k' = c.pieces.sink in
    let d' = c.pieces.disk in
    let k'' = c.answer_turn.new.sink in
    let d'' = c.answer_turn.new.disk in
    let stop = c.in_err-answer_turn.field-0.0 in
    counted_passed sink disk c.from_residual.result k k'' d d'' stop (counted_then sink disk k k' k'' d d' d'' (Some stop) c.pieces.invariant.counted c.in_err-answer_turn.ensures.counted) c.from_residual.ensures.1

pub returns-clause-counted : goal.returns-clause-counted
returns-clause-counted g c =
    counted_then g.K.Sink g.D.Disk c.args.sink.now c.pieces.sink c.answer_turn.new.sink c.args.disk.now c.pieces.disk c.answer_turn.new.disk None c.pieces.invariant.counted c.in_ok-answer_turn.ensures.counted
