-- For the helpers of `read_head`: how far the reading of a program part has come.
use Rattle.std.specs.Prelude.{◌≡◌, ℕ, List, [], ◌++◌, Bool, true, false}
use Rattle.edit_journal.specs.Pieces.{nothing_fed, fed}
use Rattle.script_input.specs.Taking.{TakenInput}
use Rattle.script_input.specs.Coming.{ended_lines, has_separator, journal_lines}
use Rattle.script_input.specs.Lines.{program_part, journal}
use Rattle.script_input.specs.Parts.{HoldsPart, IsHead}
use Rattle.script_input.specs.declared.script.ProgramText.{ProgramText}

-- The bytes are ended lines without a separator. Whatever follows them, they go to the program part.
pub record IsProgramFront (front : List ℕ) : Type 0 where
  pub part : (more : List ℕ) → program_part (front ++ more) ≡ front ++ program_part more
  pub behind : (more : List ℕ) → journal (front ++ more) ≡ journal more
  pub ended : (more : List ℕ) → journal_lines (front ++ more) ≡ journal_lines more
  pub has : (more : List ℕ) → has_separator (front ++ more) ≡ has_separator more

-- these bytes are those whose lines were handled, and the rest, whose lines the input holds
pub record MovesOn (bytes : List ℕ) (input : TakenInput) (P : List ℕ → List ℕ → Type 0) : Type 0 where
  pub front : List ℕ
  pub rest : List ℕ
  pub same : bytes ≡ front ++ rest
  pub lines : input.lines ≡ fed nothing_fed rest
  pub holds : P front rest

-- The lines that an LF has ended were added to the program part: up to the separator if it is among them, else all.
abbrev pub AddsLines : Bool → ProgramText → List ℕ → List ℕ → Type 0
AddsLines true program front rest = (part : List ℕ) × HoldsPart program part × IsHead front part
AddsLines false program front rest = IsProgramFront front × HoldsPart program front × (ended_lines rest ≡ [])
