use Rattle.program_writing.proofs.WritableSpelling.{program_kept}
use Rattle.program_writing.proofs.laws.spelled_is_writable.Goals as goal

pub returns : goal.returns
returns c = record { writable = program_kept }
