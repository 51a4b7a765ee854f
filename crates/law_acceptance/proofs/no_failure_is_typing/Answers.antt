use Rattle.law_acceptance.proofs.NoFailure.{only_acceptable, all_acceptable}
use Rattle.law_acceptance.proofs.no_failure_is_typing.Goals as goal

pub returns-clause-only_acceptable : goal.returns-clause-only_acceptable
returns-clause-only_acceptable c = only_acceptable

pub returns-clause-all_acceptable : goal.returns-clause-all_acceptable
returns-clause-all_acceptable c = all_acceptable
