use Rattle.store_records.proofs.ComplementsAreRead.{sound, read_back}
use Rattle.store_records.proofs.record_laws.complements_are_read.Goals as goal

pub returns-clause-fits : goal.returns-clause-fits
returns-clause-fits c = λ l t k h. (sound l t k h).0

pub returns-clause-has_tree : goal.returns-clause-has_tree
returns-clause-has_tree c = λ l t k h. (sound l t k h).1

pub returns-clause-reads_back : goal.returns-clause-reads_back
returns-clause-reads_back c = λ l k w h. read_back l w k h
