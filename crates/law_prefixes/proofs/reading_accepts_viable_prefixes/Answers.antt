use Rattle.law_prefixes.proofs.ReadingLaws.{unfinished, read, no_unexpected_token}
use Rattle.law_prefixes.proofs.reading_accepts_viable_prefixes.Goals as goal

pub returns-clause-unfinished : goal.returns-clause-unfinished
returns-clause-unfinished c = unfinished

pub returns-clause-read : goal.returns-clause-read
returns-clause-read c = read

pub returns-clause-no_unexpected_token : goal.returns-clause-no_unexpected_token
returns-clause-no_unexpected_token c = no_unexpected_token
