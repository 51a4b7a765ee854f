use Rattle.law_one_text.proofs.HubReports.{hub_reports, hub_refuses}
use Rattle.law_one_text.proofs.a_hub_writes_the_report.Goals as goal

pub returns-clause-given : goal.returns-clause-given
returns-clause-given c = hub_reports

pub returns-clause-refused : goal.returns-clause-refused
returns-clause-refused c = hub_refuses
