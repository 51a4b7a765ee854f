use Rattle.store_session.specs.Appending.{stands_append}
use Rattle.store_session.proofs.standing_laws.one_more_record.Goals as goal

pub returns : goal.returns
returns c = λ ps p s h. stands_append ps p s h
