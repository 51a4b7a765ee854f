use Rattle.std.proofs.Common.{Result, IfOk, subst}
use Rattle.lens_forms.specs.Forms.{FormTree}
use Rattle.program_accepted.specs.Program.{Refusal}
use Rattle.program_accepted.specs.Refused.{IsProgramRefusal}
use Rattle.answer_text.specs.RefusalLines.{IsLineOf}
use Rattle.run_pair.proofs.pair.not_opened.Goals as goal

pub returns-in-Ok : goal.returns-in-Ok
returns-in-Ok c = λ outcome h.
    let known = subst (λ r. IfOk r (λ line. (o : Result FormTree Refusal) → IsProgramRefusal o c.args.refused → IsLineOf o line)) c.in-Ok.is c.refused_part_line-line.ensures.line in
    let l = known outcome h in
    record { refusal = l.refusal; is = l.is; is_line = l.is_line }
