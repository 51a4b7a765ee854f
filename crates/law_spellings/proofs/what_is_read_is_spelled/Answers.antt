use Rattle.law_spellings.proofs.Types.{type_exact}
use Rattle.law_spellings.proofs.Lenses.{lens_exact}
use Rattle.law_spellings.proofs.Programs.{program_found}
use Rattle.law_spellings.proofs.what_is_read_is_spelled.Goals as goal

pub returns-clause-types : goal.returns-clause-types
returns-clause-types c = λ room t here there read. (type_exact room).found here (t, there) read

pub returns-clause-lenses : goal.returns-clause-lenses
returns-clause-lenses c = λ room l here there read. (lens_exact room).found here (l, there) read

pub returns-clause-programs : goal.returns-clause-programs
returns-clause-programs c = program_found
