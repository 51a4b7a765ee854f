use Rattle.lens_branch.proofs.LawsOfAlternatives.{alternatives_laws}
use Rattle.lens_branch.proofs.laws.alternatives_laws.Goals as goal

pub returns : goal.returns
returns c = alternatives_laws
