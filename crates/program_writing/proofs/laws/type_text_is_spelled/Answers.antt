use Rattle.program_writing.proofs.WritableTypes.{type_spelt}
use Rattle.program_writing.proofs.laws.type_text_is_spelled.Goals as goal

pub returns : goal.returns
returns c = record { spelled = type_spelt }
