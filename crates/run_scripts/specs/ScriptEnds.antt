-- How a call over a script ends, and what holds then. Read it from the end: `Ended`, `Reports`, `Stops`, then
-- `IsCleanStop`.
use Rattle.std.specs.Prelude.{◌≡◌, ◌⊎◌, ℕ, ◌+◌, ◌<◌, ◌≤◌, List, [], ◌++◌, length, true, Some, option_map, Result, Ok}
use Rattle.std.specs.Prelude.{Err}
use Rattle.std.specs.List.{All}
use Rattle.std.specs.declared.option.Option.{Option}
use Rattle.lens_io.specs.Calls.{Took, IsRead, IsUnasked, Gave, GaveFront, before_last}
use Rattle.lens_io.specs.declared.sink.Sink as OfSink
use Rattle.lens_io.specs.declared.source.Source as OfSource
use Rattle.edit_journal.specs.declared.line.Line.{Line}
use Rattle.script_input.specs.declared.limits.TheConstants.{MOST_BYTES, PIECE_BYTES}
use Rattle.run_scripts.specs.LineRuns.{answers_text, run_lines, states}
use Rattle.run_scripts.specs.Answers.{Answer}
use Rattle.script_input.specs.Coming.{has_separator, journal_lines, IsWhole}
use Rattle.script_input.specs.Lines.{program_part, journal}
use Rattle.run_scripts.specs.Report.{report}
use Rattle.run_scripts.specs.declared.script_state.ScriptState as OfScript
use Rattle.command_ends.specs.Statuses.{IsFinished}
use Rattle.command_ends.specs.declared.status.Status.{Status}
use Rattle.command_ends.specs.declared.status.Status.TheVariants.{Done, SomeRefused, ProgramRefused, SourceFault}
use Rattle.command_ends.specs.declared.status.Status.TheVariants.{SinkFault, InputTooLong, NoMemory}

-- The run over these lines goes on to its end, and this holds of every state of it, the first one and those after
-- refused items included.
abbrev pub StaysInStep : {T : Type 0} (answer : T → ℕ → Line → Option (T × Answer)) → (T → Type 0) → T → List Line
    → Type 0
StaysInStep {T} answer is_kept t lines = (all : List T) × (states answer t lines ≡ Some all) × All is_kept all

-- A status that may come while the last piece is handled, before it is known that the input is too long.
abbrev pub ComesFirst : Status → Type 0
ComesFirst ProgramRefused = Unit {0}
ComesFirst SinkFault = Unit {0}
ComesFirst NoMemory = Unit {0}
ComesFirst status = ⊥

-- What a script means.
module _ {H : Type 0} (script : OfScript.Ghosts H) where
  -- if the separator has come, the program part is accepted
  abbrev pub GoesOn : List ℕ → Type 0
  GoesOn bytes =
      has_separator bytes ≡ true → (program : script.Accepted) × (script.accepted (program_part bytes) ≡ Ok program)

  -- A call over these bytes came to its end if the program part is accepted, and refused it if it is refused; or memory
  -- ran out.
  abbrev pub IsComplete : List ℕ → Status → Type 0
  IsComplete bytes status =
      (((program : script.Accepted) → script.accepted (program_part bytes) ≡ Ok program
      → IsFinished status ⊎ (status ≡ NoMemory))
      × ((refusal : script.Refusal) → script.accepted (program_part bytes) ≡ Err refusal
      → (status ≡ ProgramRefused) ⊎ (status ≡ NoMemory)))

  -- every run of every program part that is accepted stays in step
  abbrev pub EveryRunStaysInStep : Type 0
  EveryRunStaysInStep =
      (part : List ℕ) (program : script.Accepted) → script.accepted part ≡ Ok program
      → (lines : List Line) → StaysInStep script.answer (script.in_step program) (script.start program) lines

  -- ---- the answers to some lines of the journal

  -- the answer lines to these lines of a journal, for a program part that is accepted
  abbrev pub answers_with : Result script.Accepted script.Refusal → List Line → Option (List ℕ)
  answers_with (Ok program) lines = option_map answers_text (run_lines script.answer (script.start program) 0 lines)
  answers_with (Err refusal) lines = Some []

  -- the run over these lines stays in step, if the program part is accepted
  abbrev pub LinesStayInStep : Result script.Accepted script.Refusal → List Line → Type 0
  LinesStayInStep (Ok program) lines = StaysInStep script.answer (script.in_step program) (script.start program) lines
  LinesStayInStep (Err refusal) lines = Unit {0}

  -- This text has the answers to the first lines of the journal that an LF has ended in these bytes, and there are
  -- these lines more. Every state of the run over the lines that are answered is in step.
  pub record AnswersBut (bytes : List ℕ) (rest : List Line) (text : List ℕ) : Type 0 where
    -- the lines that are answered
    pub lines : List Line
    -- they are the first that have ended
    pub ended : journal_lines bytes ≡ lines ++ rest
    -- the text has their answers
    pub are : answers_with (script.accepted (program_part bytes)) lines ≡ Some text
    -- and the run over them stays in step
    pub stays : LinesStayInStep (script.accepted (program_part bytes)) lines

  -- the answers to all of these lines; nothing if the separator has not come
  abbrev pub AnswersAll : List ℕ → List ℕ → Type 0
  AnswersAll bytes text = AnswersBut bytes [] text

  -- the answers to the lines before one of them, or to all
  abbrev pub AnswersSome : List ℕ → List ℕ → Type 0
  AnswersSome bytes text = (rest : List Line) × AnswersBut bytes rest text

-- A source that gave these bytes.
module _ {H S : Type 0} (script : OfScript.Ghosts H) (source : OfSource.Ghosts S) (old new : S) where
  -- The program part is whole and is refused.
  pub record RefusesPart (bytes : List ℕ) (refusal : script.Refusal) : Type 0 where
    -- its separator has come with the last call of the source, or the source is at its end
    pub whole : IsWhole source old new bytes
    -- and this is why it is refused
    pub refused : script.accepted (program_part bytes) ≡ Err refusal

  -- When the source was called last, all lines of the journal that had ended were answered, and their answers were
  -- written: they are the first of what was written, which is this many bytes of the call's text.
  pub record AnswersInTime (bytes : List ℕ) (count : ℕ) : Type 0 where
    -- what the last call gave is at the end of these bytes
    pub within : source.last new ≤ length bytes
    -- it is no more than a piece
    pub few : source.last new ≤ PIECE_BYTES
    -- the answers to the lines that had ended before that call
    pub answers : List ℕ
    pub answered : AnswersAll script (before_last source old new bytes) answers
    -- they are written
    pub written : length answers ≤ count

  -- the source was not called, and nothing was taken; or the answers were in time
  abbrev pub AnswersFirst : List ℕ → ℕ → Type 0
  AnswersFirst bytes count = IsUnasked source old new × (bytes ≡ []) ⊎ AnswersInTime bytes count

-- A call from the old devices to the new ones.
module _ {H S K : Type 0} (script : OfScript.Ghosts H) (source : OfSource.Ghosts S) (sink : OfSink.Ghosts K)
    (old new : S × K) where
  -- The source was read to its end and gave these bytes, at most 2^30. Their report, with this status, was written to
  -- the sink. The program part is accepted, and every state of the run is in step.
  pub record Reports (status : Status) : Type 0 where
    -- the bytes that the source gave, to its end
    pub bytes : List ℕ
    pub took : Took source old.0 new.0 bytes
    pub read : IsRead source old.0 new.0
    -- they are not too many
    pub within : length bytes ≤ MOST_BYTES
    -- Their report was written, and it has this status. That there is a report says also that each translation applied to
    -- its document: a step whose translation does not has no value (`after_carrying` in edit_session/specs/Step.antt), and
    -- a run with such a step has no report.
    pub text : List ℕ
    pub is_report : report script bytes ≡ Some (text, status)
    pub gave : Gave sink old.1 new.1 text
    -- the program part is accepted
    pub program : script.Accepted
    pub is_accepted : script.accepted (program_part bytes) ≡ Ok program
    -- and the run over the journal stays in step
    pub stays : StaysInStep script.answer (script.in_step program) (script.start program) (journal bytes)

  -- what a call that the sink stopped was writing: answers, the line of a refusal, or the report of an input that is at
  -- its end
  abbrev pub WouldWrite : List ℕ → List ℕ → Type 0
  WouldWrite bytes text =
      GoesOn script bytes × AnswersSome script bytes text
      ⊎ ((refusal : script.Refusal) × RefusesPart script source old.0 new.0 bytes refusal
      × (text ≡ script.refusal_line refusal))
      ⊎ IsRead source old.0 new.0 × ((status : Status) × (report script bytes ≡ Some (text, status)))

  -- ---- what was written, of a call to which the source gave these bytes

  -- The program part is whole and refused, and the line of the refusal was written.
  abbrev pub HasRefused : List ℕ → Type 0
  HasRefused bytes =
      (refusal : script.Refusal)
      × RefusesPart script source old.0 new.0 bytes refusal × Gave sink old.1 new.1 (script.refusal_line refusal)

  -- The answers to all lines of the journal that an LF has ended were written, and no more.
  abbrev pub HasAnsweredAll : List ℕ → Type 0
  HasAnsweredAll bytes =
      GoesOn script bytes × ((text : List ℕ) × AnswersAll script bytes text × Gave sink old.1 new.1 text)

  -- The answers to some of these lines, up to one of them, were written, and no more. They were in time.
  abbrev pub HasAnsweredSome : List ℕ → Type 0
  HasAnsweredSome bytes =
      (text : List ℕ)
      × AnswersSome script bytes text × Gave sink old.1 new.1 text
      × AnswersFirst script source old.0 new.0 bytes (length text)

  -- A prefix of what the call was writing was written, and not all of it. The answers were in time.
  abbrev pub HasWrittenPrefix : List ℕ → Type 0
  HasWrittenPrefix bytes =
      (text : List ℕ) × WouldWrite bytes text
      × ((front : GaveFront sink old.1 new.1 text) × AnswersFirst script source old.0 new.0 bytes front.0)

  -- what was written when a call ended with a status. That of a call that is finished is said by `Reports`. No other
  -- status comes.
  abbrev pub IsCleanStop : List ℕ → Status → Type 0
  IsCleanStop bytes Done = Unit {0}
  IsCleanStop bytes SomeRefused = Unit {0}
  IsCleanStop bytes ProgramRefused = HasRefused bytes
  IsCleanStop bytes SourceFault = HasAnsweredAll bytes
  IsCleanStop bytes InputTooLong = HasAnsweredAll bytes
  IsCleanStop bytes SinkFault = HasWrittenPrefix bytes
  IsCleanStop bytes NoMemory = HasAnsweredSome bytes
  IsCleanStop bytes status = ⊥

  -- These bytes were taken, at most 2^30 + 1. The status is InputTooLong only if they are more than 2^30, and if they
  -- are, it is InputTooLong unless a refusal of the program part, the sink or memory stopped the call first.
  pub record Stops (status : Status) : Type 0 where
    -- the bytes that the source gave
    pub bytes : List ℕ
    pub took : Took source old.0 new.0 bytes
    -- one more than the limit may have come
    pub at_most : length bytes ≤ MOST_BYTES + 1
    -- when the input is too long, and which statuses may come before that is known
    pub only_too_long : status ≡ InputTooLong → MOST_BYTES < length bytes
    pub if_too_long : MOST_BYTES < length bytes → (status ≡ InputTooLong) ⊎ ComesFirst status
    -- what was written
    pub clean : IsCleanStop bytes status

  -- How the call ended.
  pub record Ended (status : Status) : Type 0 where
    -- what was taken and written, after each status
    pub stops : Stops status
    -- if nothing stopped the call, the report of the complete input was written
    pub reports : IsFinished status → Reports status
