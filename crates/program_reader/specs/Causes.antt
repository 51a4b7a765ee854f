-- The program that tokens spell, or the cause for which they spell none.
-- The main definition is `program_of`; behind it stands what a fault of the code says of the cause.
use Rattle.std.specs.Prelude.{◌≡◌, ℕ, List, Option, Some, None, Result, Ok, Err}
use Rattle.program_tokens.specs.declared.token.PlacedToken.{PlacedToken}
use Rattle.program_terms.specs.Terms.{ProgramTree}
use Rattle.program_grammar.specs.declared.mention.NameFault.{NameFault}
use Rattle.program_grammar.specs.declared.mention.NameFault.TheVariants as names
use Rattle.program_grammar.specs.Mentions.{NotedProgram, without_notes}
use Rattle.program_grammar.specs.Names.{first_fault}
use Rattle.program_grammar.specs.Reading.{program_at}
use Rattle.program_reader.specs.declared.fault.ReadFault.{ReadFault}
use Rattle.program_reader.specs.declared.fault.ReadFault.TheVariants as faults
use Rattle.program_reader.specs.declared.fault.ProgramReadFault.{ProgramReadFault}
use Rattle.program_reader.specs.declared.fault.ProgramReadFault.TheVariants.{NoMemory, Ended, NotAProgram, UnknownName}
use Rattle.program_reader.specs.declared.fault.ProgramReadFault.TheVariants.{RepeatedName}

-- Why tokens do not spell a program: they run out, or this is the offset of the unexpected token, of the unknown or of
-- the repeated name.
pub data ReadCause : Type 0 where
  ended : ReadCause
  not_a_program : ℕ → ReadCause
  unknown_name : ℕ → ReadCause
  repeated_name : ℕ → ReadCause

-- the cause of a fault of the names
abbrev pub name_cause : NameFault → ReadCause
name_cause (names.Unknown at) = unknown_name at
name_cause (names.Repeated at) = repeated_name at

-- the value, where the names have no fault
abbrev pub if_no_fault : {A : Type 0} → Option NameFault → A → Result A ReadCause
if_no_fault None x = Ok x
if_no_fault (Some fault) x = Err (name_cause fault)

-- The grammar's cause comes first: the unexpected token. Then comes the first fault of the names.
abbrev pub program_or_cause : Result NotedProgram (Option ℕ) → Result ProgramTree ReadCause
program_or_cause (Ok p) = if_no_fault (first_fault p) (without_notes p)
program_or_cause (Err (Some at)) = Err (not_a_program at)
program_or_cause (Err None) = Err ended

-- the program that these tokens spell, or why they spell none
abbrev pub program_of : List PlacedToken → Result ProgramTree ReadCause
program_of tokens = program_or_cause (program_at tokens)

-- ---- the faults of the code

-- the cause of a fault; running out of memory says nothing of the tokens
abbrev pub read_cause : ProgramReadFault → Option ReadCause
read_cause NoMemory = None
read_cause Ended = Some ended
read_cause (NotAProgram at) = Some (not_a_program at)
read_cause (UnknownName at) = Some (unknown_name at)
read_cause (RepeatedName at) = Some (repeated_name at)

-- the result is this cause, where there is one
abbrev pub IsTokenRefusal : {Y : Type 0} → Option ReadCause → Result Y ReadCause → Type 0
IsTokenRefusal None wanted = Unit {0}
IsTokenRefusal (Some cause) wanted = wanted ≡ Err cause

-- what the code returns, as it is viewed, is the wanted result
abbrev pub IsResult : {X Y : Type 0} → (X → Y) → Result X ProgramReadFault → Result Y ReadCause → Type 0
IsResult view (Ok x) wanted = wanted ≡ Ok (view x)
IsResult view (Err fault) wanted = IsTokenRefusal (read_cause fault) wanted

-- the public fault for tokens that do not fit
abbrev pub public_fault : ReadFault → ProgramReadFault
public_fault faults.NoMemory = NoMemory
public_fault faults.Ended = Ended
public_fault (faults.At at) = NotAProgram at

-- the public fault for a fault of the names
abbrev pub public_name_fault : NameFault → ProgramReadFault
public_name_fault (names.Unknown at) = UnknownName at
public_name_fault (names.Repeated at) = RepeatedName at
