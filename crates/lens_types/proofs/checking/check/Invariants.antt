use Rattle.std.proofs.Common.{[]}
use Rattle.program_terms.specs.Views.{program_tree}
use Rattle.lens_types.specs.Checking.{first_failure}
use Rattle.lens_types.specs.Earlier.{all_known}
use Rattle.lens_types.specs.Entries.{earlier_tree}
use Rattle.lens_types.proofs.DefinitionSteps.{IsAfter}
use Rattle.lens_types.proofs.checking.check.Given as goal

abbrev pub invariant-loop-at : goal.invariant-loop-at
invariant-loop-at l =
    let program = program_tree l.program in
    IsAfter (earlier_tree l.earlier) program.definitions l.at program.main (first_failure program) (all_known [] program.definitions)
