use Rattle.std.proofs.Common.{◌≡◌, ◌++◌, [], length, map}
use Rattle.program_terms.specs.Views.{definitions_tree}
use Rattle.program_grammar.specs.Mentions.{definition_without_notes}
use Rattle.program_reader.specs.Known.{first_fault_among}
use Rattle.program_reader.specs.Programs.{definition_with_notes}
use Rattle.program_reader.proofs.names.known_definitions.Given as goal

abbrev pub invariant-definitions : goal.invariant-definitions
invariant-definitions l = record {
  fault : first_fault_among (definitions_tree l.known) (map definition_with_notes l.left.items) l.mentions
      ≡ first_fault_among [] (map definition_with_notes l.fn.definitions.items) l.mentions;
  whole : definitions_tree l.known ++ map definition_without_notes (map definition_with_notes l.left.items)
      ≡ map definition_without_notes (map definition_with_notes l.fn.definitions.items);
}

abbrev pub decreases-definitions : goal.decreases-definitions
decreases-definitions l = length l.left.items
