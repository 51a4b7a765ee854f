use Rattle.std.proofs.Common.{length, sym, subst, arith}
use Rattle.lens_io.specs.Content.{IsFull}
use Rattle.run_scripts.specs.ScriptEnds.{Ended}
use Rattle.run_scripts.proofs.JournalEnds.{run_ends, run_stops}
use Rattle.run_scripts.proofs.PiecesComeOn.{stage}
use Rattle.run_scripts.proofs.journal.answer_lines.Goals as goal
use Rattle.lens_io.proofs.Increases.{sink_failed_since}

pub last_report-requires-clause-none : goal.last_report-requires-clause-none
last_report-requires-clause-none g c = c.in-Ok.ensures.answers.has_ended.none

pub last_report-requires-clause-fits : goal.last_report-requires-clause-fits
last_report-requires-clause-fits g c = omega (arith, c.in-Ok.ensures.number)

pub returns-in-Ok-clause-ended : goal.returns-in-Ok-clause-ended
returns-in-Ok-clause-ended g c = λ start front rest part program t head is first.
    let script = g.A.ScriptState in
    let after = c.answer_pieces.new in
    let old = stage c.args.source.now c.args.sink.now c.args.input (script.state c.args.state.now) in
    let new = stage after.source after.sink after.input (script.state after.state) in
    let p = c.in-Ok.ensures.answers in
    run_ends script c.requires.in_step g.S.Source g.K.Sink start old new front rest part t head program is first c.give_report.new.sink p.more c.in-Ok.progress p.has_ended
    c.last_report.result c.give_report.result p.consumes c.last_report.ensures.report c.give_report.ensures.gives

pub returns-in-Err-clause-ended : goal.returns-in-Err-clause-ended
returns-in-Err-clause-ended g c = λ start front rest part program t head is first.
    let script = g.A.ScriptState in
    let after = c.answer_pieces.new in
    let old = stage c.args.source.now c.args.sink.now c.args.input (script.state c.args.state.now) in
    let new = stage after.source after.sink after.input (script.state after.state) in
    let p = c.in-Err.ensures.answers in
    subst (Ended script g.S.Source g.K.Sink (start, old.sink) (new.source, new.sink)) (sym c.status.ensures)
    (run_stops script c.requires.in_step g.S.Source g.K.Sink start old new front rest part t head program is first (length c.args.piece.now) c.requires.few c.in-Err.ensures.few p.more c.in-Err.stopped p.consumes p.at_most
    p.has_ended)

pub returns-in-Ok-clause-sink_fault : goal.returns-in-Ok-clause-sink_fault
returns-in-Ok-clause-sink_fault g c = λ e.
    let sink = g.K.Sink in
    let before = c.args.sink.now in
    let mid = c.answer_pieces.new.sink in
    let after = c.give_report.new.sink in
    sink_failed_since (sink.faults before) (sink.faults mid) (sink.faults after) (sink.empty_takes before) (sink.empty_takes mid) (sink.empty_takes after) (IsFull (sink.room after) (sink.held after))
    c.in-Ok.ensures.sink_faults.0 c.in-Ok.ensures.sink_faults.1 (c.give_report.ensures.sink_fault e)
