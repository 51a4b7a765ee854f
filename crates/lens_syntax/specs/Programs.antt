-- The program of a text, or the cause why it has none.
-- In order: `Tells` says of a text which program it is or why it is none; `unbounded` and `bounded` compute it.
use Rattle.std.specs.Prelude.{◌≡◌, ℕ, List, Option, Some, None, Result, Ok, Err, length, nat_le, if◌then◌else◌}
use Rattle.program_tokens.specs.Tokens.{tokens_of}
use Rattle.program_terms.specs.Terms.{ProgramTree}
use Rattle.program_grammar.specs.Grammar.{program_and_end}
use Rattle.program_grammar.specs.Mentions.{NotedProgram, without_notes}
use Rattle.program_grammar.specs.Unexpected.{IsUnexpectedToken}
use Rattle.program_grammar.specs.Names.{first_fault}
use Rattle.program_grammar.specs.Spelling.{IsProgram}
use Rattle.program_grammar.specs.declared.mention.NameFault.{NameFault}
use Rattle.program_grammar.specs.declared.mention.NameFault.TheVariants.{Unknown, Repeated}
use Rattle.program_reader.specs.Causes.{ReadCause, program_of}
use Rattle.program_reader.specs.Causes as tokens
use Rattle.lens_syntax.specs.declared.fault.ProgramFault.{ProgramFault}
use Rattle.lens_syntax.specs.declared.fault.ProgramFault.TheVariants.{ProgramTooLong, NotAProgram, UnknownName}
use Rattle.lens_syntax.specs.declared.fault.ProgramFault.TheVariants.{RepeatedName, NoMemory}
use Rattle.lens_syntax.specs.declared.reading.TheConstants.{MOST_PROGRAM_BYTES}

-- Why a text is no program: it is too long, or this is the offset of the unexpected token, of the unknown or of the
-- repeated name.
pub data ProgramCause : Type 0 where
  too_long : ProgramCause
  not_a_program : ℕ → ProgramCause
  unknown_name : ℕ → ProgramCause
  repeated_name : ℕ → ProgramCause

-- ---- what a result says of a text, in the words of the grammar

-- The text is spelled as this program, and its names have no fault.
pub record IsProgramOf (text : List ℕ) (program : ProgramTree) : Type 0 where
  pub with_notes : NotedProgram
  pub is : without_notes with_notes ≡ program
  pub spelled : IsProgram with_notes (tokens_of text)
  pub names : first_fault with_notes ≡ None

-- The grammar does not have the text, and the token at this offset is the first that does not fit.
pub record HasUnexpectedToken (text : List ℕ) (at : ℕ) : Type 0 where
  pub unexpected : IsUnexpectedToken program_and_end (tokens_of text) at
  pub none : (with_notes : NotedProgram) → IsProgram with_notes (tokens_of text) → ⊥

-- The grammar has the text, and this is the first fault of its names.
pub record HasNameFault (text : List ℕ) (fault : NameFault) : Type 0 where
  pub with_notes : NotedProgram
  pub spelled : IsProgram with_notes (tokens_of text)
  pub first : first_fault with_notes ≡ Some fault

-- what the result for a text of any length says of it
abbrev pub Tells : List ℕ → Result ProgramTree ProgramCause → Type 0
Tells text (Ok program) = IsProgramOf text program
Tells text (Err too_long) = ⊥
Tells text (Err (not_a_program at)) = HasUnexpectedToken text at
Tells text (Err (unknown_name at)) = HasNameFault text (Unknown at)
Tells text (Err (repeated_name at)) = HasNameFault text (Repeated at)

-- ---- the same as one result, which computes

-- The cause of a text, from that of its tokens. Tokens never run out before a text ends, so the first row is never
-- used.
abbrev pub text_cause : List ℕ → ReadCause → ProgramCause
text_cause text tokens.ended = not_a_program (length text)
text_cause text (tokens.not_a_program at) = not_a_program at
text_cause text (tokens.unknown_name at) = unknown_name at
text_cause text (tokens.repeated_name at) = repeated_name at

abbrev pub text_result : List ℕ → Result ProgramTree ReadCause → Result ProgramTree ProgramCause
text_result text (Ok program) = Ok program
text_result text (Err cause) = Err (text_cause text cause)

-- the program of a text, or the first cause why it has none
abbrev pub unbounded : List ℕ → Result ProgramTree ProgramCause
unbounded text = text_result text (program_of (tokens_of text))

-- the same of a text that has a limit of length
abbrev pub bounded : List ℕ → Result ProgramTree ProgramCause
bounded text = if nat_le (length text) MOST_PROGRAM_BYTES then unbounded text else Err too_long

-- ---- the faults of the code

-- the cause of a fault; running out of memory says nothing of the text
abbrev pub program_fault_cause : ProgramFault → Option ProgramCause
program_fault_cause ProgramTooLong = Some too_long
program_fault_cause (NotAProgram at) = Some (not_a_program at)
program_fault_cause (UnknownName at) = Some (unknown_name at)
program_fault_cause (RepeatedName at) = Some (repeated_name at)
program_fault_cause NoMemory = None

-- the wanted result is this cause, where there is one
abbrev pub IsTextRefusal : Option ProgramCause → Result ProgramTree ProgramCause → Type 0
IsTextRefusal None wanted = Unit {0}
IsTextRefusal (Some cause) wanted = wanted ≡ Err cause

-- what the code returns, as it is viewed, is the wanted result
abbrev pub Gives : {X : Type 0} → (X → ProgramTree) → Result X ProgramFault → Result ProgramTree ProgramCause → Type 0
Gives view (Ok x) wanted = wanted ≡ Ok (view x)
Gives view (Err fault) wanted = IsTextRefusal (program_fault_cause fault) wanted

-- what a cause says of a text, where there is one
abbrev pub TellsCause : List ℕ → Option ProgramCause → Type 0
TellsCause text None = Unit {0}
TellsCause text (Some cause) = Tells text (Err cause)

-- what the code returns, as it is viewed, says of a text
abbrev pub TellsResult : {X : Type 0} → (X → ProgramTree) → List ℕ → Result X ProgramFault → Type 0
TellsResult view text (Ok x) = Tells text (Ok (view x))
TellsResult view text (Err fault) = TellsCause text (program_fault_cause fault)
