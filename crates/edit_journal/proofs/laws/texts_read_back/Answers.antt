use Rattle.edit_journal.proofs.TextsReadBack.{text_of_change}
use Rattle.edit_journal.proofs.laws.texts_read_back.Goals as goal

pub returns : goal.returns
returns c = text_of_change
