use Rattle.law_stores.proofs.CallsAreRuns.{goes_on_from_image, goes_on_from_end}
use Rattle.law_stores.proofs.two_calls_are_one_run.Goals as goal

pub returns-clause-crash : goal.returns-clause-crash
returns-clause-crash g c alike old1 new1 old2 new2 status1 status2 store image first is second told =
    goes_on_from_image g.S.Source g.K.Sink g.D.Disk g.A.StoredSession alike g.met.A.StoredSession.refused_stays old1 new1 old2 new2 status1 status2 store image first second told is

pub returns-clause-finished : goal.returns-clause-finished
returns-clause-finished g c alike old1 new1 old2 new2 status1 status2 store image first h is second told =
    goes_on_from_end g.S.Source g.K.Sink g.D.Disk g.A.StoredSession alike g.met.A.StoredSession.refused_stays old1 new1 old2 new2 status1 status2 store image first second told h is
