use Rattle.law_reports.proofs.GoingOn.{part_stays, lines_first}
use Rattle.law_reports.proofs.a_script_goes_on.Goals as goal

pub returns-clause-part : goal.returns-clause-part
returns-clause-part c = part_stays

pub returns-clause-lines : goal.returns-clause-lines
returns-clause-lines c = lines_first
