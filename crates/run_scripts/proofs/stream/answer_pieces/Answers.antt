use Rattle.std.proofs.Common.{inl, Ok, length, refl, subst, ◌∙◌, arith}
use Rattle.script_input.proofs.Outcomes.{as_error}
use Rattle.run_scripts.specs.LineEnds.{AnswersPiece, AnswersPieces}
use Rattle.run_scripts.proofs.PiecesComeOn.{stage, comes_on_first, stops_first, comes_on_piece, few_more, run_ends, run_stops}
use Rattle.run_scripts.proofs.stream.answer_pieces.Goals as goal

pub pieces-init : goal.pieces-init
pieces-init g c =
    let answer = g.A.ScriptState.answer in
    let state = g.A.ScriptState.state in
    let old = stage c.args.source.now c.args.sink.now c.args.input.now (state c.args.state.now) in
    let after = c.answer_ended.new in
    let p = c.new-progress.result in
    let e = c.new-progress.ensures in
    let a = c.in_ok-answer_ended.ensures in
    record {
      comes = comes_on_first answer g.S.Source g.K.Sink old after.sink after.input (state after.state) p e.number e.refused e.text after.progress a.answers a.rest a.taken a.written;
      few = inl refl;
      number = omega (arith, a.number, e.number, a.taken, c.requires.within.1);
      at_most = omega (arith, a.taken, c.requires.within.0);
      source_faults = omega arith;
      sink_faults = a.sink_faults.0;
      empty_takes = a.sink_faults.1;
      piece = refl;
    }

pub returns-in_err-answer_ended-clause-answers : goal.returns-in_err-answer_ended-clause-answers
returns-in_err-answer_ended-clause-answers g c =
    let answer = g.A.ScriptState.answer in
    let state = g.A.ScriptState.state in
    let old = stage c.args.source.now c.args.sink.now c.args.input.now (state c.args.state.now) in
    let after = c.answer_ended.new in
    let new = stage c.args.source.now after.sink after.input (state after.state) in
    let stopped = c.in_err-answer_ended.field-0.0 in
    let e = c.new-progress.ensures in
    as_error c.from_residual.result (AnswersPieces answer g.S.Source g.K.Sink old new) stopped
    (stops_first answer g.S.Source g.K.Sink old after.sink after.input (state after.state) c.new-progress.result e.number e.refused e.text stopped c.requires.within.0 c.in_err-answer_ended.ensures.answers)
    c.from_residual.ensures.1

pub returns-in_err-answer_piece-clause-answers : goal.returns-in_err-answer_piece-clause-answers
returns-in_err-answer_piece-clause-answers g c =
    let answer = g.A.ScriptState.answer in
    let state = g.A.ScriptState.state in
    let old = stage c.args.source.now c.args.sink.now c.args.input.now (state c.args.state.now) in
    let now = stage c.pieces.source c.pieces.sink c.pieces.input (state c.pieces.state) in
    let after = c.answer_piece.new in
    let new = stage after.source after.sink after.input (state after.state) in
    let stopped = c.in_err-answer_piece.field-0.0 in
    as_error c.from_residual-in_err-answer_piece.result (AnswersPieces answer g.S.Source g.K.Sink old new) stopped
    (run_stops answer g.S.Source g.K.Sink old now new c.pieces.progress after.progress c.pieces.invariant.comes stopped c.in_err-answer_piece.ensures.one_piece)
    c.from_residual-in_err-answer_piece.ensures.1

pub pieces-preserved : goal.pieces-preserved
pieces-preserved g c =
    let answer = g.A.ScriptState.answer in
    let state = g.A.ScriptState.state in
    let old = stage c.args.source.now c.args.sink.now c.args.input.now (state c.args.state.now) in
    let now = stage c.pieces.source c.pieces.sink c.pieces.input (state c.pieces.state) in
    let after = c.answer_piece.new in
    let new = stage after.source after.sink after.input (state after.state) in
    let e = c.in_ok-answer_piece.ensures in
    let h = c.pieces.invariant in
    record {
      comes = comes_on_piece answer g.S.Source g.K.Sink old now new c.pieces.progress after.progress h.comes c.in_ok-answer_piece.field-0 e.one_piece;
      few = few_more g.S.Source old.source now.source new.source (length c.pieces.piece) _ c.answer_piece.auto.piece h.few e.few;
      number = e.number;
      at_most = e.one_piece.at_most;
      source_faults = omega (arith, h.source_faults, e.source_faults);
      sink_faults = omega (arith, h.sink_faults, e.sink_faults.0);
      empty_takes = omega (arith, h.empty_takes, e.sink_faults.1);
      piece = c.answer_piece.auto.piece ∙ h.piece;
    }

pub returns-clause-answers : goal.returns-clause-answers
returns-clause-answers g c =
    let answer = g.A.ScriptState.answer in
    let state = g.A.ScriptState.state in
    let old = stage c.args.source.now c.args.sink.now c.args.input.now (state c.args.state.now) in
    let now = stage c.pieces.source c.pieces.sink c.pieces.input (state c.pieces.state) in
    let after = c.answer_piece.new in
    let new = stage after.source after.sink after.input (state after.state) in
    let last = subst (λ b. AnswersPiece answer g.S.Source g.K.Sink now new c.pieces.progress after.progress (Ok b)) c.if-branch.false c.in_ok-answer_piece.ensures.one_piece in
    run_ends answer g.S.Source g.K.Sink old now new c.pieces.progress after.progress c.pieces.invariant.comes last
