use Rattle.program_tokens.specs.Numbers.{is_digit}
use Rattle.program_tokens.specs.Words.{in_word}
use Rattle.program_tokens.proofs.WordUtf8.{run_all}
use Rattle.program_tokens.proofs.piece.first_piece.Goals as goal

pub word_piece-requires-clause-goes_on : goal.word_piece-requires-clause-goes_on
word_piece-requires-clause-goes_on c = rw c.word_run.ensures.run (run_all in_word c.args.rest.now)

pub plain_piece-requires-clause-digits : goal.plain_piece-requires-clause-digits
plain_piece-requires-clause-digits c = rw c.digit_run.ensures.run (run_all is_digit c.args.rest.now)

pub negative_piece-requires : goal.negative_piece-requires
negative_piece-requires c = rw c.digit_run-then-first-eq45.ensures.run (run_all is_digit c.args.rest.now)
