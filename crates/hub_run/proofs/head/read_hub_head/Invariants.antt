use Rattle.std.proofs.Common.{◌≡◌, ◌+◌, ◌-◌, ◌≤◌, length}
use Rattle.script_input.specs.declared.limits.TheConstants.{MOST_BYTES}
use Rattle.script_input.proofs.Heads.{ReadsOn}
use Rattle.hub_run.specs.HubHeads.{HoldsFront, HasPieces}
use Rattle.hub_run.proofs.head.read_hub_head.Given as goal

-- no separator was met so far
abbrev pub invariant-pieces : goal.invariant-pieces
invariant-pieces g l = record {
  reads : ReadsOn g.S.Source HoldsFront HasPieces l.fn.source l.source l.input l.program;
  faults : g.S.Source.faults l.fn.source ≤ g.S.Source.faults l.source;
  at_most : l.input.taken ≤ MOST_BYTES + 1;
  piece : length l.piece ≡ length l.fn.piece;
}

abbrev pub decreases-pieces : goal.decreases-pieces
decreases-pieces g l = MOST_BYTES + 1 - l.input.taken
