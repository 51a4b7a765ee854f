use Rattle.program_tokens.proofs.WordUtf8.{word_goes_on}
use Rattle.program_tokens.proofs.piece.word_piece.Goals as goal

pub word_token-requires : goal.word_token-requires
word_token-requires c = rw (c.in_ok-extend_from_slice.ensures.items, c.in_ok-push.ensures.items, c.new-word.ensures.items) (word_goes_on c.args.first c.args.others.now c.requires.begins c.requires.goes_on)
