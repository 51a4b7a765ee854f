use Rattle.std.proofs.Common.{sym, subst, ap, ◌∙◌}
use Rattle.script_input.specs.Lines.{program_part}
use Rattle.script_input.specs.Parts.{HoldsPart}
use Rattle.script_input.proofs.Heads.{part_within}
use Rattle.run_scripts.specs.LineStops.{status_of}
use Rattle.run_scripts.specs.ScriptEnds.{Ended}
use Rattle.run_scripts.proofs.ScriptEndsHold.{ended_never, ended_head, ended_alone}
use Rattle.run_scripts.proofs.program.read_and_answer.Goals as goal

pub answer_part-requires-clause-within : goal.answer_part-requires-clause-within
answer_part-requires-clause-within g c =
    part_within g.S.Source c.args.source.now c.read_head.new.source HoldsPart c.in-Ok-Separated.program c.in-Ok-Separated.input (rw c.in-Ok-Separated.field-0-is at c.in-Ok-Separated.ensures.head)

pub answer_part-requires-clause-in_step : goal.answer_part-requires-clause-in_step
answer_part-requires-clause-in_step g c = g.met.A.ProgramScript.every_run

pub returns-in_default-clause-ended : goal.returns-in_default-clause-ended
returns-in_default-clause-ended g c = ended_never g.A.ScriptState g.met.A.ProgramScript.every_run g.S.Source g.K.Sink c.args.source.now c.args.sink.now

pub returns-in-Ok-Whole-clause-ended : goal.returns-in-Ok-Whole-clause-ended
returns-in-Ok-Whole-clause-ended g c =
    let r = rw c.in-Ok-Whole.field-0-is at c.in-Ok-Whole.ensures.head in
    let part = program_part r.bytes in
    ended_alone g.A.ScriptState g.met.A.ProgramScript.every_run g.S.Source g.K.Sink c.args.source.now c.read_head.new.source c.args.sink.now c.answer_alone.new.sink r.bytes c.answer_alone.result r.whole
    (c.answer_alone.ensures.gives part (c.open.ensures part r.holds))

pub returns-in-Ok-Separated-clause-ended : goal.returns-in-Ok-Separated-clause-ended
returns-in-Ok-Separated-clause-ended g c =
    let r = rw c.in-Ok-Separated.field-0-is at c.in-Ok-Separated.ensures.head in
    c.answer_part.ensures.ended c.args.source.now r.front r.rest r.part r.taken r.head (c.open-opened.ensures r.part r.holds)

pub returns-clause-ended : goal.returns-clause-ended
returns-clause-ended g c =
    let start = c.args.source.now in
    let now = c.read_head.new.source in
    let k = c.args.sink.now in
    subst (Ended g.A.ScriptState g.S.Source g.K.Sink (start, k) (now, k)) (sym (c.status.ensures ∙ ap status_of c.at_piece.ensures))
    (ended_head g.A.ScriptState g.met.A.ProgramScript.every_run g.S.Source g.K.Sink start now k c.in-Err.fault c.in-Err.ensures.head)
