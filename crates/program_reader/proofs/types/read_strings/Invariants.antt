use Rattle.std.proofs.Common.{length}
use Rattle.program_grammar.specs.Reading.{string_at, list_at}
use Rattle.program_reader.proofs.ListLoop.{IsSoFar}
use Rattle.program_reader.proofs.types.read_strings.Given as goal

abbrev pub invariant-commas : goal.invariant-commas
invariant-commas l = IsSoFar string_at l.names.items l.reader (list_at string_at l.fn.reader)

abbrev pub decreases-commas : goal.decreases-commas
decreases-commas l = length l.reader.1
