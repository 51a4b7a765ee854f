use Rattle.lens_syntax.proofs.GrammarAnswers.{tells, tells_only}
use Rattle.lens_syntax.proofs.laws.reading_follows_the_grammar.Goals as goal

pub returns-clause-tells : goal.returns-clause-tells
returns-clause-tells c = tells

pub returns-clause-only : goal.returns-clause-only
returns-clause-only c = tells_only
