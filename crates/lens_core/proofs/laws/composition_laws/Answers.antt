use Rattle.lens_core.proofs.LawsOfCompositions.{then_laws}
use Rattle.lens_core.proofs.laws.composition_laws.Goals as goal

pub returns : goal.returns
returns c = then_laws
