use Rattle.law_reports.proofs.ReportsGoOn.{answers_first}
use Rattle.law_reports.proofs.answers_come_first.Goals as goal

pub returns : goal.returns
returns g c = answers_first g.A.ScriptState
