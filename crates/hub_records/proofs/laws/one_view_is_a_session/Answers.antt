use Rattle.hub_records.proofs.OneView.{one_step, one_group}
use Rattle.hub_records.proofs.laws.one_view_is_a_session.Goals as goal

pub returns-clause-edit : goal.returns-clause-edit
returns-clause-edit c = λ l t e. one_step l t e

pub returns-clause-group : goal.returns-clause-group
returns-clause-group c = λ l t es. one_group l t es
