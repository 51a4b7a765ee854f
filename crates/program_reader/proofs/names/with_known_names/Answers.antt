use Rattle.program_grammar.specs.Mentions.{definition_without_notes, without_notes}
use Rattle.std.proofs.Common.{[], map}
use Rattle.program_terms.specs.Views.{definitions_tree, program_tree}
use Rattle.program_reader.specs.Causes.{read_cause}
use Rattle.program_reader.specs.Known.{first_fault_among}
use Rattle.program_reader.specs.Programs.{program_with_notes}
use Rattle.program_reader.proofs.CheckedNames.{with_main, still_refused}
use Rattle.program_reader.proofs.names.with_known_names.Goals as goal

pub returns-in-Ok : goal.returns-in-Ok
returns-in-Ok c =
    let p = program_with_notes c.args.program in
    with_main (first_fault_among [] p.definitions p.mentions) p (definitions_tree c.in-Ok.known) (program_tree c.from_parts.result) (rw c.deref.ensures.value at c.in-Ok.ensures) c.from_parts.ensures

pub returns-in-Err : goal.returns-in-Err
returns-in-Err c =
    let p = program_with_notes c.args.program in
    still_refused (read_cause c.in-Err.fault) (first_fault_among [] p.definitions p.mentions) (map definition_without_notes p.definitions) (without_notes p) (rw c.deref.ensures.value at c.in-Err.ensures)
