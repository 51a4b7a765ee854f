-- What the code keeps of the pieces of a program part. Read it from the end: `HoldsPieces`, then `HoldsAfter`.
use Rattle.std.specs.Prelude.{ℕ, ◌<◌, ◌≤◌, List, [], ◌∷◌, ◌++◌, length, Bool, true, false}
use Rattle.script_input.specs.Parts.{HoldsPart}
use Rattle.hub_run.specs.Pieces.{is_cut}
use Rattle.script_input.specs.declared.script.ProgramText.{ProgramText}
use Rattle.hub_run.specs.declared.pieces.Pieces.{Pieces}
use Rattle.hub_run.specs.declared.pieces.TheConstants.{MOST_VIEWS}

-- each of these is the piece at its place
abbrev pub HoldsEach : List ProgramText → List (List ℕ) → Type 0
HoldsEach [] [] = Unit {0}
HoldsEach (kept ∷ others) (piece ∷ pieces) = HoldsPart kept piece × HoldsEach others pieces
HoldsEach _ _ = ⊥

-- these pieces are kept, unless there are too many
abbrev pub HoldsUnless : Bool → List ProgramText → ProgramText → List (List ℕ) → List ℕ → Type 0
HoldsUnless true kept last ended begun = MOST_VIEWS ≤ length ended
HoldsUnless false kept last ended begun = (length ended < MOST_VIEWS) × HoldsEach kept ended × HoldsPart last begun

-- the pieces that a cut has ended, and the one that has begun
abbrev pub HoldsPieces : Pieces → List (List ℕ) → List ℕ → Type 0
HoldsPieces kept ended begun = HoldsUnless kept.is_many kept.ended.items kept.begun ended begun

-- the same if a line is a cut or not
abbrev pub HoldsIf : Bool → Pieces → List (List ℕ) → List ℕ → List ℕ → List ℕ → Type 0
HoldsIf true kept ended begun text end = HoldsPieces kept (ended ++ begun ∷ []) []
HoldsIf false kept ended begun text end = HoldsPieces kept ended ((begun ++ text) ++ end)

-- the same after a line, with what ends it
abbrev pub HoldsAfter : Pieces → List (List ℕ) → List ℕ → List ℕ → List ℕ → Type 0
HoldsAfter kept ended begun text end = HoldsIf (is_cut text) kept ended begun text end
