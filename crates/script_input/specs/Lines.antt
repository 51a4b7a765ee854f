-- The parts of a script: its program part, and the lines of its journal. Read it from the end: `journal`, then
-- `program_part`.
use Rattle.std.specs.Prelude.{ℕ, ◌==◌, List, [], ◌∷◌, ◌++◌, Bool, false, ◌||◌, if◌then◌else◌, bytes_eq, codes}
use Rattle.std.specs.List.{onto_first, concat}
use Rattle.edit_journal.specs.Pieces.{lines_of}
use Rattle.edit_journal.specs.declared.line.Line.{Line}
use Rattle.edit_journal.specs.declared.line.Line.TheVariants.{Text, TooLong}

-- a text is `---`, with or without a CR at its end
abbrev pub is_separator : List ℕ → Bool
is_separator line = bytes_eq line (codes "---") || bytes_eq line (codes "---" ++ 13 ∷ [])

-- ---- the program part

-- The bytes cut behind each LF, which stays at the end of its line. What follows the last LF is a line if it is not
-- empty.
abbrev pub cut : List ℕ → List (List ℕ)
cut [] = []
cut (byte ∷ bytes) = if byte == 10 then (byte ∷ []) ∷ cut bytes else onto_first byte (cut bytes)

-- a line without its LF
abbrev pub up_to_line_end : List ℕ → List ℕ
up_to_line_end [] = []
up_to_line_end (byte ∷ bytes) = if byte == 10 then [] else byte ∷ up_to_line_end bytes

-- the lines before the first separator, or all lines if there is no separator
abbrev pub lines_before : List (List ℕ) → List (List ℕ)
lines_before [] = []
lines_before (line ∷ lines) = if is_separator (up_to_line_end line) then [] else line ∷ lines_before lines

-- all bytes before the separator line
abbrev pub program_part : List ℕ → List ℕ
program_part bytes = concat (lines_before (cut bytes))

-- ---- the journal

-- a line is the separator
abbrev pub is_separator_line : Line → Bool
is_separator_line (Text bytes) = is_separator bytes
is_separator_line TooLong = false

-- the lines behind the first separator, or none if there is no separator
abbrev pub behind_separator : List Line → List Line
behind_separator [] = []
behind_separator (line ∷ lines) = if is_separator_line line then lines else behind_separator lines

-- the lines of the journal, blank ones included: the lines of the bytes, as edit_journal cuts them, behind the
-- separator
abbrev pub journal : List ℕ → List Line
journal bytes = behind_separator (lines_of bytes)
