use Rattle.lens_core.proofs.LawsOfLeaves.{id_laws}
use Rattle.lens_core.proofs.laws.identity_laws.Goals as goal

pub returns : goal.returns
returns c = id_laws
