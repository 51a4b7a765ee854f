use Rattle.law_prefixes.proofs.ReadingLaws.{stops_there, only_there}
use Rattle.law_prefixes.proofs.reading_stops_at_the_unexpected_token.Goals as goal

pub returns-clause-stops_there : goal.returns-clause-stops_there
returns-clause-stops_there c = stops_there

pub returns-clause-only_there : goal.returns-clause-only_there
returns-clause-only_there c = only_there
