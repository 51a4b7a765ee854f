-- For the helpers of `open`: the pieces of a program part, of which some bytes are left.
use Rattle.std.specs.Prelude.{◌≡◌, ℕ, List, ◌++◌}
use Rattle.script_input.specs.Lines.{cut}
use Rattle.hub_run.specs.HeldPieces.{HoldsPieces}
use Rattle.hub_run.specs.Pieces.{pieces, pieces_from}
use Rattle.hub_run.specs.declared.pieces.Pieces.{Pieces}

-- The pieces of the bytes before the rest are kept, and the last of them has begun. The rest begins a line.
pub record HoldsRest (embedded : Pieces) (part rest : List ℕ) : Type 0 where
  pub ended : List (List ℕ)
  pub begun : List ℕ
  pub holds : HoldsPieces embedded ended begun
  pub goes : pieces part ≡ ended ++ pieces_from begun (cut rest)
