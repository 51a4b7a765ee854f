-- The line of a refusal for which a program has no type.
use Rattle.std.proofs.Common.{◌≡◌, List, ℕ, Some, Result, Ok, Err, IfOk, subst}
use Rattle.std.specs.declared.alloc.AllocError.{AllocError}
use Rattle.lens_forms.specs.Forms.{FormTree}
use Rattle.lens_types.specs.Checking.{Failure}
use Rattle.lens_types.specs.Faults.{IsFaultOf}
use Rattle.lens_types.specs.declared.fault.TypeFault.{TypeFault}
use Rattle.program_accepted.specs.Program.{Refusal, typing}
use Rattle.program_accepted.specs.Refused.{IsProgramRefusal}
use Rattle.program_accepted.specs.declared.program.Refused.{Refused}
use Rattle.program_accepted.specs.declared.program.Refused.TheVariants.{Typing}
use Rattle.answer_text.specs.Lines.{typing_line}
use Rattle.answer_text.specs.RefusalLines.{IsLineOf}

pub typing_refused : (r : Result (List ℕ) AllocError) (refused : Refused) (fault : TypeFault) → refused ≡ Typing fault
    → IfOk r (λ line. (failure : Failure) → IsFaultOf (Some failure) fault → line ≡ typing_line failure)
    → IfOk r (λ line. (outcome : Result FormTree Refusal) → IsProgramRefusal outcome refused → IsLineOf outcome line)
typing_refused (Ok line) refused fault is line_is =
    λ outcome h. let t = subst (IsProgramRefusal outcome) is h in record { refusal = typing t.failure; is = t.is; is_line = line_is t.failure t.is_fault }
typing_refused (Err e) refused fault is line_is = tt
