use Rattle.std.proofs.Common.{length}
use Rattle.program_grammar.specs.Reading.{pair_at, list_at}
use Rattle.program_reader.proofs.ListLoop.{IsSoFar}
use Rattle.program_reader.proofs.lenses.read_pairs.Given as goal

abbrev pub invariant-pairs : goal.invariant-pairs
invariant-pairs l = IsSoFar pair_at l.pairs.items l.reader (list_at pair_at l.fn.reader)

abbrev pub decreases-pairs : goal.decreases-pairs
decreases-pairs l = length l.reader.1
