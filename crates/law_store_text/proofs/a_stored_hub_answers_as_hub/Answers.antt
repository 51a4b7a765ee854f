use Rattle.law_store_text.proofs.HubLines.{line_alike}
use Rattle.law_store_text.proofs.HubTexts.{hub_runs_alike}
use Rattle.law_store_text.proofs.a_stored_hub_answers_as_hub.Goals as goal

pub returns-clause-line : goal.returns-clause-line
returns-clause-line c = line_alike

pub returns-clause-run : goal.returns-clause-run
returns-clause-run c = hub_runs_alike
