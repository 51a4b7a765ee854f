use Rattle.store_session.proofs.StatesInStep.{stored_sound}
use Rattle.store_session.proofs.session_laws.stored_is_in_step.Goals as goal

pub returns-clause-typed : goal.returns-clause-typed
returns-clause-typed c ps t v h = (stored_sound ps t v h).0

pub returns-clause-in_step : goal.returns-clause-in_step
returns-clause-in_step c ps t v h = (stored_sound ps t v h).1
