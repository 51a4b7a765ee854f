use Rattle.std.proofs.Common.{[]}
use Rattle.law_prefixes.proofs.MachineCompleteness.{viable_goes}
use Rattle.law_prefixes.proofs.NestingBound.{nested_below}
use Rattle.law_prefixes.proofs.NumberedSymbols.{viable}
use Rattle.law_prefixes.proofs.PlainPrefixes.{plain_prefix}
use Rattle.law_prefixes.proofs.nesting_is_bounded.Goals as goal

pub returns-clause-plain : goal.returns-clause-plain
returns-clause-plain c = λ ts h. plain_prefix h

pub returns-clause-nested_below : goal.returns-clause-nested_below
returns-clause-nested_below c = λ ts d h. nested_below d [] (tt, tt) (viable_goes h (tt, tt))

pub returns-clause-viable : goal.returns-clause-viable
returns-clause-viable c = λ ts d b. viable d [] b

pub returns-clause-unexpected : goal.returns-clause-unexpected
returns-clause-unexpected c = λ ts at m d b. m.not_viable (viable d [] b)
