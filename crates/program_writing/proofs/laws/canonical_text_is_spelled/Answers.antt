use Rattle.program_writing.proofs.CanonicalTokens.{program_spelt}
use Rattle.program_writing.proofs.laws.canonical_text_is_spelled.Goals as goal

pub returns : goal.returns
returns c = record { spelled = program_spelt }
