-- Why something is refused, as the numbers of codes.rt. Read it from the end: `reason_of`, `closed_reason`, then the
-- causes.
use Rattle.std.specs.Prelude.{ℕ}
use Rattle.program_accepted.specs.declared.program.Refused.{Refused}
use Rattle.program_accepted.specs.declared.program.Refused.TheVariants as refused
use Rattle.edit_journal.specs.declared.fault.EntryFault.{EntryFault}
use Rattle.edit_journal.specs.declared.fault.EntryFault.TheVariants as entry
use Rattle.edit_module.specs.declared.fault.Cause.{Cause}
use Rattle.edit_module.specs.declared.fault.Cause.TheVariants as cause
use Rattle.lens_syntax.specs.declared.fault.ProgramFault.{ProgramFault}
use Rattle.lens_syntax.specs.declared.fault.ProgramFault.TheVariants as syntax
use Rattle.lens_types.specs.declared.fault.TypeFault.{TypeFault}
use Rattle.lens_types.specs.declared.fault.TypeFault.TheVariants as typing
use Rattle.store_records.specs.declared.record_fault.RecordFault.{RecordFault}
use Rattle.store_records.specs.declared.record_fault.RecordFault.TheVariants as record_fault
use Rattle.embed_session.specs.declared.embedded.EmbeddedSession.{EmbeddedSession}
use Rattle.embed_session.specs.declared.embedded.EmbeddedSession.TheVariants as embedded
use Rattle.embed_session.specs.declared.outcome.Outcome.{Outcome}
use Rattle.embed_session.specs.declared.outcome.Outcome.TheVariants as outcome
use Rattle.embed_session.specs.declared.outcome.StateFault.{StateFault}
use Rattle.embed_session.specs.declared.outcome.StateFault.TheVariants as state
use Rattle.editlens_c.specs.declared.codes.TheConstants as code
use Rattle.editlens_c.specs.declared.reasons.Reason.{Reason}

-- a cause that names no place
abbrev pub no_place : ℕ → Reason
no_place cause = record { cause = cause; part = 0; at = 0 }

-- ---- items

-- why a change does not apply
abbrev pub item_cause : Cause → ℕ
item_cause cause.Kind = code.KIND
item_cause cause.Place = code.PLACE
item_cause cause.Tag = code.TAG
item_cause cause.Range = code.RANGE
item_cause cause.Overflow = code.OVERFLOW
item_cause cause.Value = code.VALUE
item_cause cause.Present = code.PRESENT
item_cause cause.Length = code.LENGTH
item_cause cause.Deep = code.DEEP

-- why a line is not a change
abbrev pub line_cause : EntryFault → ℕ
line_cause entry.LineTooLong = code.LINE_TOO_LONG
line_cause entry.NotJson = code.NOT_JSON
line_cause entry.NotAnEntry = code.NOT_AN_ENTRY
line_cause entry.NotAnEdit = code.NOT_AN_EDIT
line_cause entry.NoMemory = code.NO_CAUSE

-- ---- programs

-- why a text is not a program
abbrev pub syntax_cause : ProgramFault → ℕ
syntax_cause syntax.ProgramTooLong = code.PROGRAM_TOO_LONG
syntax_cause (syntax.NotAProgram at) = code.NOT_A_PROGRAM
syntax_cause (syntax.UnknownName at) = code.UNKNOWN_NAME
syntax_cause (syntax.RepeatedName at) = code.REPEATED_NAME
syntax_cause syntax.NoMemory = code.NO_CAUSE

-- why a program has no type
abbrev pub typing_cause : TypeFault → ℕ
typing_cause (typing.MiddleDiffers left right) = code.MIDDLE_DIFFERS
typing_cause (typing.RepeatedField name) = code.REPEATED_FIELD
typing_cause (typing.RepeatedTag name) = code.REPEATED_TAG
typing_cause (typing.RepeatedMember name) = code.REPEATED_MEMBER
typing_cause (typing.NotAMember name) = code.NOT_A_MEMBER
typing_cause typing.TooLarge = code.TOO_LARGE
typing_cause typing.TooDeep = code.TOO_DEEP
typing_cause typing.NoMemory = code.NO_CAUSE

abbrev pub program_cause : Refused → ℕ
program_cause (refused.Syntax fault) = syntax_cause fault
program_cause (refused.Typing fault) = typing_cause fault
program_cause refused.NoMemory = code.NO_CAUSE

-- the offset in the text that a fault names, or 0
abbrev pub syntax_offset : ProgramFault → ℕ
syntax_offset (syntax.NotAProgram at) = at
syntax_offset (syntax.UnknownName at) = at
syntax_offset (syntax.RepeatedName at) = at
syntax_offset syntax.ProgramTooLong = 0
syntax_offset syntax.NoMemory = 0

abbrev pub program_offset : Refused → ℕ
program_offset (refused.Syntax fault) = syntax_offset fault
program_offset (refused.Typing fault) = 0
program_offset refused.NoMemory = 0

-- ---- states

-- why the texts of a state are refused
abbrev pub state_cause : StateFault → ℕ
state_cause state.NotLeft = code.NOT_LEFT
state_cause state.NotComplement = code.NOT_COMPLEMENT
state_cause state.NotRight = code.NOT_RIGHT
state_cause state.NotConsistent = code.NOT_CONSISTENT
state_cause state.NoMemory = code.NO_CAUSE

-- ---- logs

-- why the records of a log are refused, with the number of the record
abbrev pub record_reason : RecordFault → Reason
record_reason (record_fault.BadRecord number) = record { cause = code.BAD_RECORD; part = 0; at = number }
record_reason (record_fault.NotConsistent number) = record { cause = code.RECORD_NOT_CONSISTENT; part = 0; at = number }
record_reason record_fault.NoMemory = no_place code.NO_CAUSE

-- ---- calls

-- why there is no session
abbrev pub closed_reason : EmbeddedSession → Reason
closed_reason (embedded.Open r) = no_place code.NO_CAUSE
closed_reason (embedded.Refused refused line) =
    record { cause = program_cause refused; part = 0; at = program_offset refused }
closed_reason (embedded.StateRefused fault) = no_place (state_cause fault)
closed_reason (embedded.RecordsRefused fault) = record_reason fault
closed_reason embedded.NoMemory = no_place code.NO_CAUSE

-- why a call ended so
abbrev pub reason_of : Outcome → EmbeddedSession → Reason
reason_of (outcome.NoApply part at cause) k = record { cause = item_cause cause; part = part; at = at }
reason_of (outcome.NotAChange fault) k = no_place (line_cause fault)
reason_of outcome.NoSession k = closed_reason k
reason_of outcome.Done k = no_place code.NO_CAUSE
reason_of outcome.Blank k = no_place code.NO_CAUSE
reason_of outcome.LineFeed k = no_place code.NO_CAUSE
reason_of outcome.Full k = no_place code.NO_CAUSE
reason_of outcome.NoChange k = no_place code.NO_CAUSE
reason_of outcome.NoMemory k = no_place code.NO_CAUSE
