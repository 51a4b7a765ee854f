use Rattle.std.proofs.Common.{◌≡◌, ◌+◌, ◌-◌, ◌≤◌, length, false, None}
use Rattle.script_input.specs.Taking.{GaveFew}
use Rattle.script_input.specs.declared.limits.TheConstants.{MOST_BYTES}
use Rattle.store_run.specs.Answered.{ComesOn}
use Rattle.store_run.specs.ApplyCauses.{Counted}
use Rattle.store_run.proofs.AnsweredLines.{progress_at}
use Rattle.store_run.proofs.journal.store_pieces.Given as goal

-- the answering has come on over the bytes that were taken
abbrev pub invariant-pieces : goal.invariant-pieces
invariant-pieces g l =
    let sink = g.K.Sink in
    let disk = g.D.Disk in
    let session = g.A.StoredSession in
    let source = g.S.Source in
    record {
      comes : ComesOn source sink disk session (l.fn.source, l.fn.sink, l.fn.disk, l.fn.log) (l.source, l.sink, l.disk, l.log) l.input
          (session.state l.fn.session) (progress_at 0 false) (session.state l.session) l.progress;
      few : GaveFew source l.fn.source l.source (length l.fn.piece);
      counted : Counted sink disk (l.fn.sink, l.fn.disk) (l.sink, l.disk) None;
      source_later : source.faults l.fn.source ≤ source.faults l.source;
      number : l.progress.number + length l.input.lines.ended ≤ l.input.taken;
      at_most : l.input.taken ≤ MOST_BYTES + 1;
      piece : length l.piece ≡ length l.fn.piece;
    }

abbrev pub decreases-pieces : goal.decreases-pieces
decreases-pieces g l = MOST_BYTES + 1 - l.input.taken
