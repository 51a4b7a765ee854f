use Rattle.run_link.proofs.Events.{reads_back, writes_back}
use Rattle.run_link.proofs.laws.reading_inverts_writing.Goals as goal

pub returns-clause-reads_back : goal.returns-clause-reads_back
returns-clause-reads_back c = reads_back

pub returns-clause-writes_back : goal.returns-clause-writes_back
returns-clause-writes_back c = writes_back
