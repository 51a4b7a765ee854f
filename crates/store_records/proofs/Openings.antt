-- The lens of a text, as the reader and the checker of programs return it.
use Rattle.std.proofs.Common.{◌≡◌, None, Result, Ok, refl, ap}
use Rattle.program_terms.specs.Terms.{ProgramTree}
use Rattle.lens_syntax.specs.Programs.{ProgramCause, program_fault_cause, IsTextRefusal}
use Rattle.lens_syntax.specs.declared.fault.ProgramFault.{ProgramFault}
use Rattle.lens_syntax.specs.declared.fault.ProgramFault.TheVariants as reading
use Rattle.lens_types.specs.Checking.{first_failure}
use Rattle.lens_types.specs.Faults.{IsFaultOf}
use Rattle.lens_types.specs.declared.fault.TypeFault.{TypeFault}
use Rattle.lens_types.specs.declared.fault.TypeFault.TheVariants as types
use Rattle.program_accepted.specs.Program.{form_of_program, form_without_failure}
use Rattle.store_records.specs.StoredLens.{accepted}

-- a text that the reader refuses has no lens
pub text_has_none : (wanted : Result ProgramTree ProgramCause) (fault : ProgramFault) → IsTextRefusal (program_fault_cause fault) wanted → (fault ≡ reading.NoMemory → ⊥)
    → accepted (form_of_program wanted) ≡ None
text_has_none wanted reading.ProgramTooLong h known = ap (λ r. accepted (form_of_program r)) h
text_has_none wanted (reading.NotAProgram at) h known = ap (λ r. accepted (form_of_program r)) h
text_has_none wanted (reading.UnknownName at) h known = ap (λ r. accepted (form_of_program r)) h
text_has_none wanted (reading.RepeatedName at) h known = ap (λ r. accepted (form_of_program r)) h
text_has_none wanted reading.NoMemory h known = absurd (known refl)

-- a program that the checker refuses has no lens
pub program_has_none : (p : ProgramTree) (fault : TypeFault) → IsFaultOf (first_failure p) fault → (fault ≡ types.NoMemory → ⊥) → accepted (form_of_program (Ok p)) ≡ None
program_has_none p (types.MiddleDiffers left right) h known = ap (λ o. accepted (form_without_failure p o)) h
program_has_none p (types.RepeatedField name) h known = ap (λ o. accepted (form_without_failure p o)) h
program_has_none p (types.RepeatedTag name) h known = ap (λ o. accepted (form_without_failure p o)) h
program_has_none p (types.RepeatedMember name) h known = ap (λ o. accepted (form_without_failure p o)) h
program_has_none p (types.NotAMember name) h known = ap (λ o. accepted (form_without_failure p o)) h
program_has_none p types.TooLarge h known = ap (λ o. accepted (form_without_failure p o)) h
program_has_none p types.TooDeep h known = ap (λ o. accepted (form_without_failure p o)) h
program_has_none p types.NoMemory h known = absurd (known refl)

pub ruleset opening_rules = (text_has_none, program_has_none)
