use Rattle.std.proofs.Common.{◌≡◌, ℕ, List, ◌++◌, length}
use Rattle.edit_journal.specs.Pieces.{nothing_fed, fed}
use Rattle.hub_run.specs.HubHeads.{HoldsFront}
use Rattle.script_input.specs.PartSteps.{IsProgramFront, MovesOn}
use Rattle.hub_run.proofs.head.add_lines.Given as goal

-- the lines that were taken went to the program part
abbrev pub invariant-lines : goal.invariant-lines
invariant-lines l = record {
  moves : (front rest : List ℕ) → IsProgramFront front → HoldsFront l.fn.program front → l.fn.input.lines ≡ fed nothing_fed rest
      → MovesOn (front ++ rest) l.input (λ front _. IsProgramFront front × HoldsFront l.program front);
  count : l.input.taken ≡ l.fn.input.taken;
}

abbrev pub decreases-lines : goal.decreases-lines
decreases-lines l = length l.input.lines.ended
