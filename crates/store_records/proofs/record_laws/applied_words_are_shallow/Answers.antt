use Rattle.store_records.proofs.AppliedWords.{word_low}
use Rattle.store_records.proofs.record_laws.applied_words_are_shallow.Goals as goal

pub returns : goal.returns
returns c = λ t w v u h. word_low w t v u h
