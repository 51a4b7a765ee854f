use Rattle.law_acceptance.proofs.AcceptedTexts.{all_typed, only_typed, refused}
use Rattle.law_acceptance.proofs.acceptance_is_typing.Goals as goal

pub returns-clause-only_typed : goal.returns-clause-only_typed
returns-clause-only_typed c = only_typed

pub returns-clause-all_typed : goal.returns-clause-all_typed
returns-clause-all_typed c = all_typed

pub returns-clause-refused : goal.returns-clause-refused
returns-clause-refused c = refused
