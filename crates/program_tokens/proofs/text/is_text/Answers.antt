use Rattle.std.proofs.Common.{◌∙◌, sym}
use Rattle.program_tokens.proofs.IsText.{text_of_length}
use Rattle.program_tokens.proofs.text.is_text.Goals as goal

pub returns-then-count-le64 : goal.returns-then-count-le64
returns-then-count-le64 c =
    let fits = c.if-count-le64.true in
    c.all_in_text.ensures ∙ sym (text_of_length c.args.text.now c.count_chars-count.result c.utf8.text c.count_chars-count.ensures fits.0 fits.1)
