use Rattle.program_writing.proofs.CanonicalSpelling.{program_again}
use Rattle.program_writing.proofs.laws.canonical_text_reads_back.Goals as goal

pub returns : goal.returns
returns c = record { again = program_again }
