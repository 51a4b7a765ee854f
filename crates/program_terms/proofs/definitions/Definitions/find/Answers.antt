use Rattle.std.proofs.Common.{refl}
use Rattle.program_terms.proofs.FindDefinition.{found}
use Rattle.program_terms.proofs.definitions.Definitions.find.Goals as goal

pub returns : goal.returns
returns c = found c.args.name.now _ (λ n. refl) c.args.self.now.entries.entries c.get.result c.get.ensures.value
