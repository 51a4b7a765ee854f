use Rattle.law_one_text.proofs.PairReports.{is_one, is_report}
use Rattle.law_one_text.proofs.a_report_is_a_run.Goals as goal

pub returns-clause-run : goal.returns-clause-run
returns-clause-run c = is_one

pub returns-clause-written : goal.returns-clause-written
returns-clause-written c = is_report
