use Rattle.edit_json.proofs.TextsReadBack.{text_of_word}
use Rattle.edit_json.proofs.laws.texts_read_back.Goals as goal

pub returns : goal.returns
returns c = text_of_word
