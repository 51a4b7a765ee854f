use Rattle.std.proofs.Common.{◌≡◌, [], length, map}
use Rattle.program_reader.specs.Programs.{definition_with_notes}
use Rattle.program_reader.proofs.DefinitionLoop.{AreSoFar}
use Rattle.program_reader.proofs.programs.read_definitions.Given as goal

abbrev pub invariant-definitions : goal.invariant-definitions
invariant-definitions l = record {
  fresh : l.reader.0 ≡ [];
  so_far : AreSoFar (map definition_with_notes l.definitions.items) l.reader.1 l.fn.reader.1;
}

abbrev pub decreases-definitions : goal.decreases-definitions
decreases-definitions l = length l.reader.1
