use Rattle.run_pair.specs.RunsInStep.{every_run}
use Rattle.run_pair.proofs.laws.every_run_stays_in_step.Goals as goal

pub returns : goal.returns
returns c = every_run
