use Rattle.law_spellings.proofs.Programs.{one_program, no_program}
use Rattle.law_spellings.proofs.tokens_spell_one_program.Goals as goal

pub returns-clause-same : goal.returns-clause-same
returns-clause-same c = one_program

pub returns-clause-none : goal.returns-clause-none
returns-clause-none c = no_program
