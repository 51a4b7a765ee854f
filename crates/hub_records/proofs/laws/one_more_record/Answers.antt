use Rattle.hub_records.proofs.Appending.{stands_append}
use Rattle.hub_records.proofs.laws.one_more_record.Goals as goal

pub returns : goal.returns
returns c = λ ps p s h. stands_append ps p s h
