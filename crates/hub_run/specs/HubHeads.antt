-- What the reading of the pieces of a program part has found. Read it from the end: `ReadsHead`.
use Rattle.std.specs.Prelude.{◌≡◌, ℕ, List, [], ◌∷◌, ◌++◌, Bool, true, false}
use Rattle.lens_io.specs.declared.source.Source as OfSource
use Rattle.script_input.specs.Coming.{ended_lines}
use Rattle.script_input.specs.Lines.{cut}
use Rattle.script_input.specs.Parts.{IsHead, ReadsPart, ReadsAll}
use Rattle.script_input.specs.PartSteps.{IsProgramFront}
use Rattle.hub_run.specs.Pieces.{pieces, pieces_from}
use Rattle.hub_run.specs.HeldPieces.{HoldsPieces}
use Rattle.hub_run.specs.declared.head.HubHead.{HubHead}
use Rattle.hub_run.specs.declared.head.HubHead.TheVariants.{Separated, Whole}
use Rattle.hub_run.specs.declared.pieces.Pieces.{Pieces}

-- The pieces of a program part are kept.
pub record HasPieces (kept : Pieces) (part : List ℕ) : Type 0 where
  pub ended : List (List ℕ)
  pub begun : List ℕ
  pub holds : HoldsPieces kept ended begun
  pub are : pieces part ≡ ended ++ begun ∷ []

-- For the helpers of `read_hub_head`. The pieces of the front of a program part are kept, and the last of them has
-- begun, whatever follows.
pub record HoldsFront (kept : Pieces) (front : List ℕ) : Type 0 where
  pub ended : List (List ℕ)
  pub begun : List ℕ
  pub holds : HoldsPieces kept ended begun
  pub goes : (more : List ℕ) → pieces (front ++ more) ≡ ended ++ pieces_from begun (cut more)

-- The lines that an LF has ended were added to the pieces: up to the separator if it is among them, else all.
abbrev pub AddsLines : Bool → Pieces → List ℕ → List ℕ → Type 0
AddsLines true kept front rest = (part : List ℕ) × HasPieces kept part × IsHead front part
AddsLines false kept front rest = IsProgramFront front × HoldsFront kept front × (ended_lines rest ≡ [])

-- what was read when the reading has come to its end
abbrev pub ReadsHead : {S : Type 0} → OfSource.Ghosts S → S → S → HubHead → Type 0
ReadsHead source old new (Separated kept input) = ReadsPart source old new HasPieces kept input
ReadsHead source old new (Whole kept) = ReadsAll source old new HasPieces kept
