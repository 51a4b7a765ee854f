use Rattle.std.proofs.Common.{◌≡◌, ◌+◌, ◌-◌, ◌≤◌, length}
use Rattle.script_input.specs.declared.limits.TheConstants.{MOST_BYTES}
use Rattle.script_input.proofs.Skips.{SkipsOn}
use Rattle.script_input.proofs.rest.skip_rest.Given as goal

-- so many bytes were taken
abbrev pub invariant-pieces : goal.invariant-pieces
invariant-pieces g l = record {
  skips : SkipsOn l.fn.input.taken l.input.taken (g.S.Source.left l.fn.source) (g.S.Source.left l.source);
  faults : g.S.Source.faults l.fn.source ≤ g.S.Source.faults l.source;
  piece : length l.piece ≡ length l.fn.piece;
}

abbrev pub decreases-pieces : goal.decreases-pieces
decreases-pieces g l = MOST_BYTES + 1 - l.input.taken
