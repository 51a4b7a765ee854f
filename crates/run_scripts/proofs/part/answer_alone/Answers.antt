use Rattle.std.proofs.Common.{subst}
use Rattle.run_scripts.specs.ScriptSteps.{Opens}
use Rattle.run_scripts.proofs.ScriptEndsHold.{alone_opened, alone_unopened}
use Rattle.run_scripts.proofs.part.answer_alone.Goals as goal

pub returns-in-Ok-clause-gives : goal.returns-in-Ok-clause-gives
returns-in-Ok-clause-gives g c = λ part opens.
    let script = g.A.ScriptState in
    let o = subst (Opens script (script.accepted part)) c.in-Ok.is opens in
    alone_opened script g.K.Sink c.args.sink.now c.give_report.new.sink (script.accepted part) (script.state c.in-Ok.state) c.first_report-report.result c.give_report.result o
    c.first_report-report.ensures.text c.first_report-report.ensures.status c.give_report.ensures.gives

pub returns-in-Err-clause-gives : goal.returns-in-Err-clause-gives
returns-in-Err-clause-gives g c = λ part opens.
    let script = g.A.ScriptState in
    let not = subst (Opens script (script.accepted part)) c.in-Err.is opens in
    alone_unopened script g.K.Sink c.args.sink.now c.give_report-in-Err.new.sink (script.accepted part) c.in-Err.refused c.refusal.result c.give_report-in-Err.result not
    c.refusal.ensures.line c.refusal.ensures.status c.give_report-in-Err.ensures.gives
