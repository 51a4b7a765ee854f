use Rattle.std.proofs.Common.{Err, sym, subst}
use Rattle.run_scripts.specs.LineEnds.{AnswersPiece}
use Rattle.run_scripts.proofs.PiecesComeOn.{stage, piece_fault}
use Rattle.run_scripts.proofs.stream.answer_piece.Goals as goal

pub returns-in-Err-clause-one_piece : goal.returns-in-Err-clause-one_piece
returns-in-Err-clause-one_piece g c =
    let answer = g.A.ScriptState.answer in
    let t = g.A.ScriptState.state c.args.state.now in
    let k = c.args.sink.now in
    let p = c.args.progress.now in
    let old = stage c.args.source.now k c.args.input.now t in
    let new = stage c.take_piece.new.source k c.take_piece.new.self t in
    subst (λ stop. AnswersPiece answer g.S.Source g.K.Sink old new p p (Err stop)) (sym c.at_piece.ensures)
    (piece_fault answer g.S.Source g.K.Sink old new.source new.input p c.requires.written c.in-Err.fault c.in-Err.ensures.takes)
