use Rattle.value_json.proofs.WritingReadsBack.{again}
use Rattle.value_json.proofs.ReadingHasTree.{takes}
use Rattle.value_json.proofs.laws.reading_inverts_writing.Goals as goal

pub returns-clause-reads_back : goal.returns-clause-reads_back
returns-clause-reads_back c = again

pub returns-clause-writes_back : goal.returns-clause-writes_back
returns-clause-writes_back c = λ t d v h. let r = takes t d v h in (r.typed, r.whole, r.tree)
