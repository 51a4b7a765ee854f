use Rattle.std.proofs.Common.{◌≡◌, take}
use Rattle.program_terms.specs.Views.{definitions_tree}
use Rattle.program_terms.proofs.definitions.DefinitionsTwin.twin.Given as goal

abbrev pub invariant-loop-at : goal.invariant-loop-at
invariant-loop-at l = definitions_tree l.copies ≡ take l.at (definitions_tree l.self)
