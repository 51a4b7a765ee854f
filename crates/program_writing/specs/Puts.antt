-- A text that grows at its end. A form for the contracts of what writes a part of a text.
use Rattle.std.specs.Prelude.{◌≡◌, ℕ, Bool, List, [], ◌++◌, codes, if◌then◌else◌}
use Rattle.program_terms.specs.Terms.{RowTree, no_rows, with_row}
use Rattle.program_writing.specs.Canonical.{put_rows}

-- whatever may follow: the new text and that is the old text, and then what is put before that
abbrev pub Puts : List ℕ → List ℕ → (List ℕ → List ℕ) → Type 0
Puts old new put = (rest : List ℕ) → new ++ rest ≡ old ++ put rest

-- one row
abbrev pub put_row : RowTree → List ℕ → List ℕ
put_row row = put_rows [] (with_row row no_rows)

-- what is put before an element of a list
abbrev pub comma : Bool → List ℕ
comma first = if first then [] else codes ", "
