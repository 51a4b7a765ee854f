use Rattle.std.proofs.Common.{subst}
use Rattle.run_scripts.specs.ScriptSteps.{Opens}
use Rattle.run_scripts.proofs.ScriptEndsHold.{ended_unopened}
use Rattle.run_scripts.proofs.part.answer_part.Goals as goal

pub returns-in-Ok-clause-ended : goal.returns-in-Ok-clause-ended
returns-in-Ok-clause-ended g c = λ start front rest part t head opens.
    let script = g.A.ScriptState in
    let o = subst (Opens script (script.accepted part)) c.in-Ok.is opens in
    c.answer_script.ensures.ended start front rest part o.program t head o.is o.first

pub returns-in-Err-clause-ended : goal.returns-in-Err-clause-ended
returns-in-Err-clause-ended g c = λ start front rest part t head opens.
    let script = g.A.ScriptState in
    let not = subst (Opens script (script.accepted part)) c.in-Err.is opens in
    ended_unopened script c.requires.in_step g.S.Source g.K.Sink start c.args.source.now c.args.sink.now c.give_report.new.sink c.args.input front rest part t head
    c.in-Err.refused c.refusal.result c.give_report.result not c.refusal.ensures.line c.refusal.ensures.status c.give_report.ensures.gives
