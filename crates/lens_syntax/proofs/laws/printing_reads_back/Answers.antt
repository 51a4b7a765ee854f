use Rattle.lens_syntax.proofs.GrammarAnswers.{one_of_text, read_again}
use Rattle.lens_syntax.proofs.laws.printing_reads_back.Goals as goal

pub returns-clause-one_program : goal.returns-clause-one_program
returns-clause-one_program c = one_of_text

pub returns-clause-read_again : goal.returns-clause-read_again
returns-clause-read_again c = read_again
