use Rattle.run_pair.specs.RunsInStep.{every_check}
use Rattle.run_pair.proofs.laws.every_check_goes_on.Goals as goal

pub returns : goal.returns
returns c = every_check
