use Rattle.law_prefixes.proofs.Unexpected.{begins, one_unexpected}
use Rattle.law_prefixes.proofs.one_unexpected_token.Goals as goal

pub returns-clause-prefix_of_viable : goal.returns-clause-prefix_of_viable
returns-clause-prefix_of_viable c = begins

pub returns-clause-same_offset : goal.returns-clause-same_offset
returns-clause-same_offset c = one_unexpected
