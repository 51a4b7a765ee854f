use Rattle.law_apply.proofs.RunsOverStores.{one_run, whole_run}
use Rattle.law_apply.proofs.two_runs_are_one_run.Goals as goal

pub returns-clause-one : goal.returns-clause-one
returns-clause-one c = one_run

pub returns-clause-complete : goal.returns-clause-complete
returns-clause-complete c = whole_run
