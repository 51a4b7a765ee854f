use Rattle.program_terms.proofs.DistinctNames.{keys_distinct}
use Rattle.program_terms.proofs.definitions.Definitions.len.Goals as goal

pub returns-clause-distinct : goal.returns-clause-distinct
returns-clause-distinct c = keys_distinct c.args.self.now.entries.entries c.len.ensures.unique
