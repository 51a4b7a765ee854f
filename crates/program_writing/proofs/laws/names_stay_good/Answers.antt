use Rattle.program_writing.proofs.FirstFault.{still_faultless}
use Rattle.program_writing.proofs.laws.names_stay_good.Goals as goal

pub returns : goal.returns
returns c = record { known = still_faultless }
