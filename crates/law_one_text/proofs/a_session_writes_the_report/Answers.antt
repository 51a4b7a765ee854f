use Rattle.law_one_text.proofs.PairReports.{session_reports, session_refuses}
use Rattle.law_one_text.proofs.a_session_writes_the_report.Goals as goal

pub returns-clause-given : goal.returns-clause-given
returns-clause-given c = session_reports

pub returns-clause-refused : goal.returns-clause-refused
returns-clause-refused c = session_refuses
