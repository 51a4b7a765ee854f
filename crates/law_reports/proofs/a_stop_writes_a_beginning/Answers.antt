use Rattle.law_reports.proofs.StopsGoOn.{stop_begins}
use Rattle.law_reports.proofs.a_stop_writes_a_beginning.Goals as goal

pub returns : goal.returns
returns g c = λ old new held held' bytes stop known known' clean not more whole status end reported.
    stop_begins g.A.ScriptState g.S.Source g.K.Sink old new held held' known known' bytes more whole status end reported stop not clean
