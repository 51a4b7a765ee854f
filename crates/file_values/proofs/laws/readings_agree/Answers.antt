use Rattle.file_values.proofs.ReadingReads.{agrees}
use Rattle.file_values.proofs.laws.readings_agree.Goals as goal

pub returns : goal.returns
returns c = agrees
