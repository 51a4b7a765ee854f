use Rattle.program_tokens.proofs.IsText.{not_utf8-not_text}
use Rattle.program_tokens.proofs.piece.held_text.Goals as goal

pub returns-in-Err-clause-none : goal.returns-in-Err-clause-none
returns-in-Err-clause-none c = λ _. not_utf8-not_text c.args.bytes.now c.in-Err.ensures.cases.0
