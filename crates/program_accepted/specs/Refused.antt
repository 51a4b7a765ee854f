-- What a refusal that the code found says of a program part.
use Rattle.std.specs.Prelude.{◌≡◌, Some, Result, Err}
use Rattle.lens_forms.specs.Forms.{FormTree}
use Rattle.lens_types.specs.Faults.{IsFaultOf}
use Rattle.lens_types.specs.Checking.{Failure}
use Rattle.lens_types.specs.declared.fault.TypeFault.{TypeFault}
use Rattle.lens_types.specs.declared.fault.TypeFault.TheVariants as types
use Rattle.lens_syntax.specs.Programs.{ProgramCause, program_fault_cause}
use Rattle.lens_syntax.specs.declared.fault.ProgramFault.{ProgramFault}
use Rattle.lens_syntax.specs.declared.fault.ProgramFault.TheVariants as reading
use Rattle.program_accepted.specs.Program.{Refusal, syntax, typing}
use Rattle.program_accepted.specs.declared.program.Refused.{Refused}
use Rattle.program_accepted.specs.declared.program.Refused.TheVariants.{Syntax, Typing, NoMemory}

-- The text is not a program, and the fault says its cause.
pub record IsSyntaxRefusal (outcome : Result FormTree Refusal) (fault : ProgramFault) : Type 0 where
  pub cause : ProgramCause
  pub is : outcome ≡ Err (syntax cause)
  pub is_fault : program_fault_cause fault ≡ Some cause

-- The program has no type, and the fault says its failure.
pub record IsTypingRefusal (outcome : Result FormTree Refusal) (fault : TypeFault) : Type 0 where
  pub failure : Failure
  pub is : outcome ≡ Err (typing failure)
  pub is_fault : IsFaultOf (Some failure) fault
  pub known : fault ≡ types.NoMemory → ⊥

-- the code's refusal is that of the definition; running out of memory says nothing
abbrev pub IsProgramRefusal : Result FormTree Refusal → Refused → Type 0
IsProgramRefusal outcome (Syntax fault) = IsSyntaxRefusal outcome fault
IsProgramRefusal outcome (Typing fault) = IsTypingRefusal outcome fault
IsProgramRefusal outcome NoMemory = Unit {0}

-- the refusal has a line: running out of memory has none
abbrev pub IsKnown : Refused → Type 0
IsKnown (Syntax fault) = fault ≡ reading.NoMemory → ⊥
IsKnown (Typing fault) = fault ≡ types.NoMemory → ⊥
IsKnown NoMemory = Unit {0}
