use Rattle.program_reader.specs.Programs.{program_with_notes}
use Rattle.program_reader.proofs.CheckedNames.{read_so}
use Rattle.program_reader.proofs.reading.read_tokens.Goals as goal

pub returns : goal.returns
returns c = read_so c.args.tokens (program_with_notes c.in_ok-program.program) c.with_known_names.result c.in_ok-program.ensures c.with_known_names.ensures
