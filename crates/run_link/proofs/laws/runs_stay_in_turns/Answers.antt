use Rattle.run_link.specs.RunsInTurns.{every_run}
use Rattle.run_link.proofs.laws.runs_stay_in_turns.Goals as goal

pub returns : goal.returns
returns c = every_run
