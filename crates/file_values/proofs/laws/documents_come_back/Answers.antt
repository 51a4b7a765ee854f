use Rattle.file_values.proofs.ReadTrees.{read_is_written, written_is_read}
use Rattle.file_values.proofs.laws.documents_come_back.Goals as goal

pub returns-clause-written : goal.returns-clause-written
returns-clause-written c = written_is_read

pub returns-clause-read : goal.returns-clause-read
returns-clause-read c = read_is_written
