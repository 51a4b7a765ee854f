use Rattle.std.proofs.Common.{◌≡◌, length}
use Rattle.store_new.specs.Found.{added_all}
use Rattle.store_new.proofs.document.add_lines.Given as goal

-- the lines that were taken were added
abbrev pub invariant-lines : goal.invariant-lines
invariant-lines l = record {
  adds : added_all l.found l.input.lines.ended ≡ added_all l.fn.found l.fn.input.lines.ended;
  begun : l.input.lines.begun ≡ l.fn.input.lines.begun;
  count : l.input.taken ≡ l.fn.input.taken;
}

abbrev pub decreases-lines : goal.decreases-lines
decreases-lines l = length l.input.lines.ended
