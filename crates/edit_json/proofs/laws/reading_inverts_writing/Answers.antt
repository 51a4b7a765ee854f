use Rattle.edit_json.proofs.WritingReadsBack.{again}
use Rattle.edit_json.proofs.ReadingHasTree.{takes}
use Rattle.edit_json.proofs.laws.reading_inverts_writing.Goals as goal

pub returns-clause-reads_back : goal.returns-clause-reads_back
returns-clause-reads_back c = again

pub returns-clause-writes_back : goal.returns-clause-writes_back
returns-clause-writes_back c = λ d w h. let r = takes d w h in (r.1, r.2, r.0)
