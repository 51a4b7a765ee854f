use Rattle.std.proofs.Common.{◌≡◌, ◌+◌, ◌-◌, ◌≤◌, length}
use Rattle.script_input.specs.Taking.{GaveFew}
use Rattle.script_input.specs.declared.limits.TheConstants.{MOST_BYTES}
use Rattle.run_scripts.specs.LineEnds.{ComesOn}
use Rattle.run_scripts.proofs.PiecesComeOn.{stage}
use Rattle.run_scripts.proofs.stream.answer_pieces.Given as goal

-- the run has come on over the bytes that were taken
abbrev pub invariant-pieces : goal.invariant-pieces
invariant-pieces g l =
    let answer = g.A.ScriptState.answer in
    let state = g.A.ScriptState.state in
    let source = g.S.Source in
    let sink = g.K.Sink in
    record {
      comes : ComesOn answer source sink
          (stage l.fn.source l.fn.sink l.fn.input (state l.fn.state)) (stage l.source l.sink l.input (state l.state)) l.progress;
      few : GaveFew source l.fn.source l.source (length l.piece);
      number : l.progress.number ≤ l.input.taken;
      at_most : l.input.taken ≤ MOST_BYTES + 1;
      source_faults : source.faults l.fn.source ≤ source.faults l.source;
      sink_faults : sink.faults l.fn.sink ≤ sink.faults l.sink;
      empty_takes : sink.empty_takes l.fn.sink ≤ sink.empty_takes l.sink;
      piece : length l.piece ≡ length l.fn.piece;
    }

abbrev pub decreases-pieces : goal.decreases-pieces
decreases-pieces g l = MOST_BYTES + 1 - l.input.taken
