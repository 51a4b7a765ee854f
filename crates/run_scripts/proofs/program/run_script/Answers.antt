use Rattle.lens_io.specs.Calls.{SourceFailed, SinkFailed}
use Rattle.run_scripts.proofs.Complete.{complete, ends_among}
use Rattle.run_scripts.proofs.program.run_script.Goals as goal

pub returns-clause-completes : goal.returns-clause-completes
returns-clause-completes g c =
    let e = c.read_and_answer.ensures in
    complete g.A.ScriptState g.S.Source g.K.Sink (c.args.source.now, c.args.sink.now) (c.read_and_answer.new.source, c.read_and_answer.new.sink)
    (SourceFailed g.S.Source c.args.source.now c.read_and_answer.new.source) (SinkFailed g.K.Sink c.args.sink.now c.read_and_answer.new.sink)
    c.read_and_answer.result e.ended e.source_fault e.sink_fault

pub returns-clause-statuses : goal.returns-clause-statuses
returns-clause-statuses g c =
    ends_among g.A.ScriptState g.S.Source g.K.Sink (c.args.source.now, c.args.sink.now) (c.read_and_answer.new.source, c.read_and_answer.new.sink)
    c.read_and_answer.result c.read_and_answer.ensures.ended
