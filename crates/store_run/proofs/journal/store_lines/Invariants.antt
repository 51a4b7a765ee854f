use Rattle.std.proofs.Common.{◌≡◌, ◌+◌, ◌≤◌, List, ◌++◌, length, None}
use Rattle.edit_journal.specs.declared.line.Line.{Line}
use Rattle.store_run.specs.Answered.{Answers}
use Rattle.store_run.specs.ApplyCauses.{Counted}
use Rattle.store_run.proofs.journal.store_lines.Given as goal

-- the lines that were taken are answered
abbrev pub invariant-lines : goal.invariant-lines
invariant-lines g l =
    let sink = g.K.Sink in
    let disk = g.D.Disk in
    let session = g.A.StoredSession in
    record {
      answers : (lines : List Line) × (l.fn.input.lines.ended ≡ lines ++ l.input.lines.ended)
          × Answers sink disk session (l.fn.sink, l.fn.disk, l.fn.log) (l.sink, l.disk, l.log) (session.state l.fn.session) l.fn.progress lines (session.state l.session) l.progress;
      counted : Counted sink disk (l.fn.sink, l.fn.disk) (l.sink, l.disk) None;
      begun : l.input.lines.begun ≡ l.fn.input.lines.begun;
      count : l.input.taken ≡ l.fn.input.taken;
      number : l.progress.number + length l.input.lines.ended ≤ l.fn.progress.number + length l.fn.input.lines.ended;
    }

abbrev pub decreases-lines : goal.decreases-lines
decreases-lines g l = length l.input.lines.ended
