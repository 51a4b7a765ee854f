use Rattle.law_spellings.proofs.Types.{type_exact}
use Rattle.law_spellings.proofs.Lenses.{lens_exact}
use Rattle.law_spellings.proofs.Programs.{program_again}
use Rattle.law_spellings.proofs.what_is_spelled_is_read.Goals as goal

pub returns-clause-types : goal.returns-clause-types
returns-clause-types c = λ room t here there spelled behind. (type_exact room).again t here there spelled behind

pub returns-clause-lenses : goal.returns-clause-lenses
returns-clause-lenses c = λ room l here there spelled behind. (lens_exact room).again l here there spelled behind

pub returns-clause-programs : goal.returns-clause-programs
returns-clause-programs c = program_again
