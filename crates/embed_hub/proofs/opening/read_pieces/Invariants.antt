use Rattle.std.proofs.Common.{length}
use Rattle.embed_hub.specs.Opening.{HoldsRest}
use Rattle.embed_hub.proofs.opening.read_pieces.Given as goal

-- the pieces of the lines that were taken are kept
abbrev pub invariant-lines : goal.invariant-lines
invariant-lines l = HoldsRest l.pieces l.part l.rest

abbrev pub decreases-lines : goal.decreases-lines
decreases-lines l = length l.rest
