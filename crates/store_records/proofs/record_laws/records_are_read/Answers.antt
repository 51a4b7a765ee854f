use Rattle.store_records.proofs.RecordsAreRead.{program_read, version_read, change_read, snapshot_read}
use Rattle.store_records.proofs.record_laws.records_are_read.Goals as goal

pub returns-clause-program : goal.returns-clause-program
returns-clause-program c = program_read

pub returns-clause-version : goal.returns-clause-version
returns-clause-version c = version_read

pub returns-clause-change : goal.returns-clause-change
returns-clause-change c = change_read

pub returns-clause-snapshot : goal.returns-clause-snapshot
returns-clause-snapshot c = snapshot_read
