use Rattle.embed_session.proofs.LogTexts.{first_plain, change_plain, snapshot_plain, version_plain, log_cut}
use Rattle.embed_session.proofs.laws.records_are_cut.Goals as goal

pub returns-clause-first : goal.returns-clause-first
returns-clause-first c = first_plain

pub returns-clause-change : goal.returns-clause-change
returns-clause-change c form triple last text h = change_plain form last text h

pub returns-clause-snapshot : goal.returns-clause-snapshot
returns-clause-snapshot c form triple last text h = snapshot_plain form triple text h

pub returns-clause-version : goal.returns-clause-version
returns-clause-version c = version_plain

pub returns-clause-cut : goal.returns-clause-cut
returns-clause-cut c = log_cut
