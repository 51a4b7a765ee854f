use Rattle.program_terms.specs.Views.{program_tree}
use Rattle.run_gen.proofs.Accepted.{read_is}
use Rattle.run_gen.proofs.program.fixed_program.Goals as goal

pub returns-in-Ok : goal.returns-in-Ok
returns-in-Ok c = read_is c.as_bytes.result.now (program_tree c.in-Ok.program) c.as_bytes.ensures.value c.in-Ok.ensures.answer
