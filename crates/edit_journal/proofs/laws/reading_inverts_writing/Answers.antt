use Rattle.edit_journal.proofs.Entries.{reads_back, writes_back, parts_read_back}
use Rattle.edit_journal.proofs.Groups.{change_reads_back, change_writes_back}
use Rattle.edit_journal.proofs.laws.reading_inverts_writing.Goals as goal

pub returns-clause-reads_back : goal.returns-clause-reads_back
returns-clause-reads_back c = change_reads_back

pub returns-clause-writes_back : goal.returns-clause-writes_back
returns-clause-writes_back c = change_writes_back

pub returns-clause-entry_reads_back : goal.returns-clause-entry_reads_back
returns-clause-entry_reads_back c = reads_back

pub returns-clause-entry_writes_back : goal.returns-clause-entry_writes_back
returns-clause-entry_writes_back c = writes_back

pub returns-clause-parts : goal.returns-clause-parts
returns-clause-parts c = parts_read_back
