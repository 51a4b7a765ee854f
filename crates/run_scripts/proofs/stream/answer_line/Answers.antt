use Rattle.std.proofs.Common.{◌∷◌, []}
use Rattle.run_scripts.proofs.AnsweredLines.{with_progress, line_answered, stops_unchanged, then_given}
use Rattle.run_scripts.proofs.stream.answer_line.Goals as goal

pub returns-in-Ok-clause-answers : goal.returns-in-Ok-clause-answers
returns-in-Ok-clause-answers g c =
    let answer = g.A.ScriptState.answer in
    let state = g.A.ScriptState.state in
    let old = with_progress (state c.args.state.now) c.args.progress.now in
    let next = with_progress (state c.handle_line.new.state) c.handle_line.new.progress in
    let held = g.K.Sink.held c.args.sink.now in
    then_given answer old next (c.args.line.now ∷ []) held held (line_answered answer old next c.args.line.now held c.in-Ok.ensures.goes)
    c.give_many.result c.give_many.new.progress (g.K.Sink.held c.give_many.new.sink) c.give_many.ensures.given c.give_many.ensures.stopped

pub returns-in-Err-clause-answers : goal.returns-in-Err-clause-answers
returns-in-Err-clause-answers g c =
    let answer = g.A.ScriptState.answer in
    let state = g.A.ScriptState.state in
    let old = with_progress (state c.args.state.now) c.args.progress.now in
    stops_unchanged answer old c.handle_line.new.progress (c.args.line.now ∷ []) (g.K.Sink.held c.args.sink.now) (g.K.Sink.held c.out_of_memory.new.sink)
    c.out_of_memory.result c.in-Err.ensures.unchanged c.out_of_memory.ensures.writes
