use Rattle.std.proofs.Common.{◌≡◌, ◌+◌, ◌-◌, ◌≤◌, length}
use Rattle.script_input.specs.declared.limits.TheConstants.{MOST_BYTES}
use Rattle.store_new.proofs.FoundPieces.{FindsOn}
use Rattle.store_new.proofs.document.find_lines.Given as goal

-- the lines that were taken were added
abbrev pub invariant-pieces : goal.invariant-pieces
invariant-pieces g l = record {
  finds : FindsOn g.S.Source l.fn.source l.source l.fn.input l.input l.found;
  faults : g.S.Source.faults l.fn.source ≤ g.S.Source.faults l.source;
  at_most : l.input.taken ≤ MOST_BYTES + 1;
  piece : length l.piece ≡ length l.fn.piece;
}

abbrev pub decreases-pieces : goal.decreases-pieces
decreases-pieces g l = MOST_BYTES + 1 - l.input.taken
