use Rattle.file_patches.proofs.KeepsKeys.{unique_kept, unique_read}
use Rattle.file_patches.proofs.laws.names_stay_unique.Goals as goal

pub returns-clause-made : goal.returns-clause-made
returns-clause-made c = unique_kept

pub returns-clause-read : goal.returns-clause-read
returns-clause-read c = unique_read
