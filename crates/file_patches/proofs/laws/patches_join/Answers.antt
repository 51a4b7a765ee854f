use Rattle.file_patches.proofs.Joined.{joined}
use Rattle.file_patches.proofs.laws.patches_join.Goals as goal

pub returns-clause-joined : goal.returns-clause-joined
returns-clause-joined c = λ os ps j. joined os ps j
