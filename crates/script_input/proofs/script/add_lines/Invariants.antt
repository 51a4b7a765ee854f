use Rattle.std.proofs.Common.{◌≡◌, ℕ, List, ◌++◌, length}
use Rattle.edit_journal.specs.Pieces.{nothing_fed, fed}
use Rattle.script_input.specs.Parts.{HoldsPart}
use Rattle.script_input.specs.PartSteps.{IsProgramFront, MovesOn}
use Rattle.script_input.proofs.script.add_lines.Given as goal

-- the lines that were taken went to the program part
abbrev pub invariant-lines : goal.invariant-lines
invariant-lines l = record {
  moves : (front rest : List ℕ) → IsProgramFront front → HoldsPart l.fn.program front → l.fn.input.lines ≡ fed nothing_fed rest
      → MovesOn (front ++ rest) l.input (λ front _. IsProgramFront front × HoldsPart l.program front);
  count : l.input.taken ≡ l.fn.input.taken;
}

abbrev pub decreases-lines : goal.decreases-lines
decreases-lines l = length l.input.lines.ended
