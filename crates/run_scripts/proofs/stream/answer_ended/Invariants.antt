use Rattle.std.proofs.Common.{◌≡◌, ◌+◌, ◌≤◌, List, ◌++◌, length}
use Rattle.edit_journal.specs.declared.line.Line.{Line}
use Rattle.run_scripts.specs.LineEnds.{AnswersLines}
use Rattle.run_scripts.proofs.stream.answer_ended.Given as goal

-- the run went over the lines that were taken
abbrev pub invariant-lines : goal.invariant-lines
invariant-lines g l =
    let answer = g.A.ScriptState.answer in
    let state = g.A.ScriptState.state in
    let sink = g.K.Sink in
    record {
      goes : (lines : List Line) × (l.fn.input.lines.ended ≡ lines ++ l.input.lines.ended)
          × AnswersLines answer (state l.fn.state, l.fn.progress) lines
          (sink.held l.fn.sink) (sink.held l.sink) (state l.state, l.progress);
      begun : l.input.lines.begun ≡ l.fn.input.lines.begun;
      count : l.input.taken ≡ l.fn.input.taken;
      number : l.progress.number + length l.input.lines.ended ≤ l.fn.progress.number + length l.fn.input.lines.ended;
      sink_faults : sink.faults l.fn.sink ≤ sink.faults l.sink;
      empty_takes : sink.empty_takes l.fn.sink ≤ sink.empty_takes l.sink;
    }

abbrev pub decreases-lines : goal.decreases-lines
decreases-lines g l = length l.input.lines.ended
