-- A script that comes in pieces: its lines that have ended, and what is known of it before its end. Read it from the
-- end: `IsWhole`.
use Rattle.std.specs.Prelude.{◌≡◌, ◌⊎◌, ℕ, ◌≤◌, List, [], ◌++◌, length, Bool, true, false}
use Rattle.std.specs.List.{list_any}
use Rattle.lens_io.specs.Calls.{IsRead, IsUnasked, before_last}
use Rattle.lens_io.specs.declared.source.Source as OfSource
use Rattle.edit_journal.specs.Pieces.{nothing_fed, fed}
use Rattle.edit_journal.specs.declared.line.Line.{Line}
use Rattle.script_input.specs.declared.limits.TheConstants.{PIECE_BYTES}
use Rattle.script_input.specs.Lines.{is_separator_line, behind_separator, program_part}

-- the lines that an LF has ended in these bytes
abbrev pub ended_lines : List ℕ → List Line
ended_lines bytes = (fed nothing_fed bytes).ended

-- the separator is among the lines that an LF has ended
abbrev pub has_separator : List ℕ → Bool
has_separator bytes = list_any is_separator_line (ended_lines bytes)

-- the lines of the journal that an LF has ended: `journal` has these first, whatever bytes follow
abbrev pub journal_lines : List ℕ → List Line
journal_lines bytes = behind_separator (ended_lines bytes)

-- A source that gave these bytes.
module _ {S : Type 0} (source : OfSource.Ghosts S) (old new : S) where
  -- The separator had not come when the source was called last.
  pub record HasLastPiece (bytes : List ℕ) : Type 0 where
    -- what the last call gave is at the end of these bytes
    pub within : source.last new ≤ length bytes
    -- it is no more than a piece
    pub few : source.last new ≤ PIECE_BYTES
    -- no separator is in the bytes before it
    pub not_before : has_separator (before_last source old new bytes) ≡ false

  -- the source was not called, and nothing was taken; or the separator had not come when it was called last
  abbrev pub HadNoPart : List ℕ → Type 0
  HadNoPart bytes = IsUnasked source old new × (bytes ≡ []) ⊎ HasLastPiece bytes

  -- The separator has come with the last call of the source.
  pub record HasPart (bytes : List ℕ) : Type 0 where
    -- it had not come before that call
    pub last : HasLastPiece bytes
    -- it has now
    pub has : has_separator bytes ≡ true
    -- whatever follows, the program part stays as it is
    pub stays : (more : List ℕ) → program_part (bytes ++ more) ≡ program_part bytes

  -- The program part is whole: the separator has come with the last call of the source; or no separator has come, and
  -- the source is at its end.
  abbrev pub IsWhole : List ℕ → Type 0
  IsWhole bytes = HasPart bytes ⊎ (has_separator bytes ≡ false) × IsRead source old new
