-- What the reading of a script's program part has found when it ends. Read it from the end: `ReadsHead`, then
-- `StopsHead`.
use Rattle.std.specs.Prelude.{◌≡◌, ℕ, ◌+◌, ◌<◌, ◌≤◌, List, [], ◌++◌, length, Bool, true, false}
use Rattle.lens_io.specs.Calls.{Took, IsRead}
use Rattle.lens_io.specs.declared.failed.TakeFault.{TakeFault}
use Rattle.lens_io.specs.declared.failed.TakeFault.TheVariants.{SourceFault, TooLong, NoMemory}
use Rattle.lens_io.specs.declared.source.Source as OfSource
use Rattle.edit_journal.specs.Pieces.{nothing_fed, fed, lines_of}
use Rattle.script_input.specs.Coming.{ended_lines, has_separator, journal_lines, HadNoPart}
use Rattle.script_input.specs.Lines.{program_part, journal}
use Rattle.script_input.specs.Taking.{TakenInput, StopsAt}
use Rattle.script_input.specs.declared.limits.TheConstants.{MOST_BYTES}
use Rattle.script_input.specs.declared.script.Head.{Head}
use Rattle.script_input.specs.declared.script.Head.TheVariants.{Separated, Whole}
use Rattle.script_input.specs.declared.script.ProgramText.{ProgramText}
use Rattle.lens_syntax.specs.declared.reading.TheConstants.{MOST_PROGRAM_BYTES}

-- ---- a program part

-- this text is the program part, unless that has more than `MOST_PROGRAM_BYTES` bytes
abbrev pub HoldsText : Bool → List ℕ → List ℕ → Type 0
HoldsText true text part = MOST_PROGRAM_BYTES < length part
HoldsText false text part = (text ≡ part) × (length part ≤ MOST_PROGRAM_BYTES)

abbrev pub HoldsPart : ProgramText → List ℕ → Type 0
HoldsPart program part = HoldsText program.is_long program.text.items part

-- The bytes are ended lines up to the separator, which is the last of them, with this program part.
pub record IsHead (front part : List ℕ) : Type 0 where
  pub is_part : (more : List ℕ) → program_part (front ++ more) ≡ part
  pub behind : (more : List ℕ) → journal (front ++ more) ≡ lines_of more
  pub ended : (more : List ℕ) → journal_lines (front ++ more) ≡ ended_lines more
  pub has : (more : List ℕ) → has_separator (front ++ more) ≡ true

-- ---- the source

module _ {S : Type 0} (source : OfSource.Ghosts S) (old new : S) where
  -- The bytes that were taken are those whose lines were handled, and the rest, whose lines the input holds. The
  -- separator had not come when the source was called last.
  pub record IsTaken (input : TakenInput) (front rest : List ℕ) : Type 0 where
    -- the source gave these bytes
    pub consumes : Took source old new (front ++ rest)
    -- the input holds the lines of the rest
    pub lines : input.lines ≡ fed nothing_fed rest
    -- the input counts all of them
    pub count : input.taken ≡ length (front ++ rest)
    -- one more than the limit may have come
    pub few : length (front ++ rest) ≤ MOST_BYTES + 1
    -- no separator had come when the source was called last
    pub last : HadNoPart source old new (front ++ rest)

  -- The source came to its end, where its last call gave nothing, and its bytes are a program part alone.
  pub record EndsWhole (bytes : List ℕ) : Type 0 where
    -- the source gave these bytes
    pub consumes : Took source old new bytes
    -- it has no more
    pub at_end : IsRead source old new
    -- so its last call gave nothing
    pub gave_nothing : source.last new ≡ 0
    -- they are not too many
    pub within : length bytes ≤ MOST_BYTES
    -- no LF has ended a separator in them
    pub no_separator : has_separator bytes ≡ false
    -- so they have no journal
    pub no_journal : journal bytes ≡ []

  -- ---- the end of the reading. What it found in a program part is kept in a value, and `Holds` says of which part.

  -- The program part was read up to the separator, which came with the last call of the source.
  pub record ReadsPart {P : Type 0} (Holds : P → List ℕ → Type 0) (program : P) (input : TakenInput) : Type 0 where
    -- the lines up to the separator, and what the source gave behind them
    pub front : List ℕ
    pub rest : List ℕ
    -- the program part
    pub part : List ℕ
    -- these bytes were taken, and the input holds the rest
    pub taken : IsTaken input front rest
    -- the front ends with the separator, and the program part is before it
    pub head : IsHead front part
    -- the value keeps what was found in the program part
    pub holds : Holds program part

  -- The source came to its end, and no journal is behind the program part.
  pub record ReadsAll {P : Type 0} (Holds : P → List ℕ → Type 0) (program : P) : Type 0 where
    pub bytes : List ℕ
    -- they are all bytes of the source, and a program part alone
    pub whole : EndsWhole bytes
    -- the value keeps what was found in the program part
    pub holds : Holds program (program_part bytes)

  -- what was read when the reading has come to its end
  abbrev pub ReadsHead : Head → Type 0
  ReadsHead (Separated program input) = ReadsPart HoldsPart program input
  ReadsHead (Whole program) = ReadsAll HoldsPart program

  -- A fault of the source, or too many bytes, come before the separator has. When memory ran out the separator had not
  -- come when the source was called last.
  abbrev pub NotYet : List ℕ → TakeFault → Type 0
  NotYet bytes SourceFault = has_separator bytes ≡ false
  NotYet bytes TooLong = has_separator bytes ≡ false
  NotYet bytes NoMemory = HadNoPart source old new bytes

  -- The reading stopped after these bytes.
  pub record StopsHead (fault : TakeFault) : Type 0 where
    pub bytes : List ℕ
    -- the source gave these bytes
    pub consumes : Took source old new bytes
    -- one more than the limit may have come
    pub at_most : length bytes ≤ MOST_BYTES + 1
    -- what the number of bytes says of the fault
    pub stops : StopsAt (length bytes) fault
    -- what the fault says of the separator
    pub not_yet : NotYet bytes fault
