-- A refusal that the code found is that of the definition, and known to be one.
use Rattle.std.proofs.Common.{◌≡◌, Result, Ok, Err, Some, refl, ap, subst}
use Rattle.std.specs.Prelude.{IfErr, MatchResult}
use Rattle.program_terms.specs.Terms.{ProgramTree}
use Rattle.lens_syntax.specs.Programs.{ProgramCause, too_long, not_a_program, unknown_name, repeated_name, program_fault_cause, IsTextRefusal as IsSyntaxFault}
use Rattle.lens_syntax.specs.declared.fault.ProgramFault.{ProgramFault}
use Rattle.lens_syntax.specs.declared.fault.ProgramFault.TheVariants as reading
use Rattle.lens_forms.specs.Forms.{FormTree}
use Rattle.program_accepted.specs.Program.{Refusal, form_of_program}
use Rattle.program_accepted.specs.Refused.{IsProgramRefusal, IsKnown, IsSyntaxRefusal}
use Rattle.program_accepted.specs.declared.program.Refused.{Refused}
use Rattle.program_accepted.specs.declared.program.Refused.TheVariants.{Syntax, Typing, NoMemory}

-- a fault of the reader that is not memory is the refusal of the text
pub syntax_refused : (wanted : Result ProgramTree ProgramCause) (fault : ProgramFault) → IsSyntaxFault (program_fault_cause fault) wanted → (fault ≡ reading.NoMemory → ⊥)
    → IsSyntaxRefusal (form_of_program wanted) fault
syntax_refused wanted reading.ProgramTooLong h known = record { cause = too_long; is = ap form_of_program h; is_fault = refl }
syntax_refused wanted (reading.NotAProgram at) h known = record { cause = not_a_program at; is = ap form_of_program h; is_fault = refl }
syntax_refused wanted (reading.UnknownName at) h known = record { cause = unknown_name at; is = ap form_of_program h; is_fault = refl }
syntax_refused wanted (reading.RepeatedName at) h known = record { cause = repeated_name at; is = ap form_of_program h; is_fault = refl }
syntax_refused wanted reading.NoMemory h known = absurd (known refl)

known : (outcome : Result FormTree Refusal) (refused : Refused) → IsProgramRefusal outcome refused → IsKnown refused
known outcome (Syntax fault) h = λ e. let bad = subst (λ f. program_fault_cause f ≡ Some h.cause) e h.is_fault in cc
known outcome (Typing fault) h = h.known
known outcome NoMemory h = tt

-- a refusal is never a fault of memory
pub known_error : {A : Type 0} (r : Result A Refused) (P : A → Type 0) (outcome : Result FormTree Refusal) → MatchResult r P (λ refused. IsProgramRefusal outcome refused) → IfErr r IsKnown
known_error (Ok lens) P outcome h = tt
known_error (Err refused) P outcome h = known outcome refused h
