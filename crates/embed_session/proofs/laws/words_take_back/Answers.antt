use Rattle.embed_session.proofs.UndoneTexts.{left_back, right_back}
use Rattle.embed_session.proofs.laws.words_take_back.Goals as goal

pub returns-clause-left : goal.returns-clause-left
returns-clause-left c = left_back

pub returns-clause-right : goal.returns-clause-right
returns-clause-right c = right_back
