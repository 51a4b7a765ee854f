-- The pieces of a program part: the text of each view. Read it from the end: `pieces`.
use Rattle.std.specs.Prelude.{ℕ, List, [], ◌∷◌, ◌++◌, Bool, false, ◌||◌, if◌then◌else◌, codes, bytes_eq}
use Rattle.edit_journal.specs.declared.line.Line.{Line}
use Rattle.edit_journal.specs.declared.line.Line.TheVariants.{Text, TooLong}
use Rattle.script_input.specs.Lines.{cut, up_to_line_end}

-- a text is `+++`, with or without a CR at its end
abbrev pub is_cut : List ℕ → Bool
is_cut line = bytes_eq line (codes "+++") || bytes_eq line (codes "+++" ++ 13 ∷ [])

-- the same of a line
abbrev pub is_cut_line : Line → Bool
is_cut_line (Text bytes) = is_cut bytes
is_cut_line TooLong = false

-- The piece that has begun with these bytes, and the pieces behind it, from these lines. A line that is `+++` ends a
-- piece and belongs to none; the LF before it belongs to the piece that it ends.
abbrev pub pieces_from : List ℕ → List (List ℕ) → List (List ℕ)
pieces_from begun [] = begun ∷ []
pieces_from begun (line ∷ lines) =
    if is_cut (up_to_line_end line) then begun ∷ pieces_from [] lines else pieces_from (begun ++ line) lines

-- the pieces of a program part, in order: one at least
abbrev pub pieces : List ℕ → List (List ℕ)
pieces part = pieces_from [] (cut part)
