use Rattle.std.proofs.Common.{◌≡◌, ◌++◌, drop}
use Rattle.bridge_texts.specs.Runs.{cut}
use Rattle.bridge_texts.proofs.building.cut.Given as goal

abbrev pub invariant-loop-i : goal.invariant-loop-i
invariant-loop-i l = (l.front.items ++ (cut l.end (drop l.i l.runs) l.left).0 ≡ (cut l.fn.end l.fn.runs l.fn.place).0) × ((cut l.end (drop l.i l.runs) l.left).1 ≡ (cut l.fn.end l.fn.runs l.fn.place).1)
