use Rattle.law_apply.proofs.CallsLeaveRuns.{goes_on_from_image, goes_on_from_end}
use Rattle.law_apply.proofs.two_calls_are_one_run.Goals as goal

pub returns-clause-crash : goal.returns-clause-crash
returns-clause-crash g c old1 new1 old2 new2 status1 status2 store image first is second told =
    goes_on_from_image g.S.Source g.K.Sink g.D.Disk old1 new1 old2 new2 status1 status2 store image first second told is

pub returns-clause-finished : goal.returns-clause-finished
returns-clause-finished g c old1 new1 old2 new2 status1 status2 store image first h is second told =
    goes_on_from_end g.S.Source g.K.Sink g.D.Disk old1 new1 old2 new2 status1 status2 store image first second told h is
