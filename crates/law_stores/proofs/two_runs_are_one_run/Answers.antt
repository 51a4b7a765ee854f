use Rattle.law_stores.proofs.RunsAreOne.{one_run, whole_run}
use Rattle.law_stores.proofs.two_runs_are_one_run.Goals as goal

pub returns-clause-one : goal.returns-clause-one
returns-clause-one g c alike before between after first second left right =
    one_run g.A.StoredSession alike before between after first second left right g.met.A.StoredSession.refused_stays

pub returns-clause-complete : goal.returns-clause-complete
returns-clause-complete g c alike before between after first second left right =
    whole_run g.A.StoredSession alike before between after first second left right
