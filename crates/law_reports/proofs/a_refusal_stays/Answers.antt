use Rattle.law_reports.proofs.ReportsGoOn.{refusal_stays}
use Rattle.law_reports.proofs.a_refusal_stays.Goals as goal

pub returns : goal.returns
returns g c = refusal_stays g.A.ScriptState
