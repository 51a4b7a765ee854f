use Rattle.embed_session.proofs.LogRecords.{opened_stands, fresh_snapshot, line_change, one_more_snapshot, log_reopened, log_goes_on}
use Rattle.embed_session.proofs.laws.records_stand.Goals as goal

pub returns-clause-opened : goal.returns-clause-opened
returns-clause-opened c = opened_stands

pub returns-clause-snapshot : goal.returns-clause-snapshot
returns-clause-snapshot c program text last r h s = fresh_snapshot program text r h s

pub returns-clause-change : goal.returns-clause-change
returns-clause-change c = line_change

pub returns-clause-one_more_snapshot : goal.returns-clause-one_more_snapshot
returns-clause-one_more_snapshot c records text last r h s = one_more_snapshot records text r h s

pub returns-clause-reopened : goal.returns-clause-reopened
returns-clause-reopened c = log_reopened

pub returns-clause-goes_on : goal.returns-clause-goes_on
returns-clause-goes_on c = log_goes_on
