use Rattle.std.proofs.Common.{◌+◌, subst, sym}
use Rattle.run_scripts.specs.Answers.{AddsAnswer}
use Rattle.run_scripts.proofs.RunSteps.{added_step}
use Rattle.run_scripts.proofs.progress.answer_item.Goals as goal

pub returns-clause-goes : goal.returns-clause-goes
returns-clause-goes g c = λ given lines.
    let answer = g.A.ScriptState.answer in
    let state = g.A.ScriptState.state in
    let old = c.args.progress.now in
    let new = c.count.new.self in
    added_step answer (state c.args.state.now) (state c.answer.new.self) given old new c.args.line.now lines c.in_ok-refused.refused c.requires.not_blank
    (subst (λ x. AddsAnswer (answer (state c.args.state.now) (old.number + 1) c.args.line.now) (state c.answer.new.self) old.text.items x c.in_ok-refused.refused) (sym c.count.ensures.text) c.in_ok-refused.ensures.answer)
    c.count.ensures.number c.count.ensures.refused
