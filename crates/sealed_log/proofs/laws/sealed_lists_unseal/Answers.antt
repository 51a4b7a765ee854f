use Rattle.sealed_log.proofs.SealedLists.{sealed-unsealed, unsealed-sealed}
use Rattle.sealed_log.proofs.laws.sealed_lists_unseal.Goals as goal

pub returns-clause-back : goal.returns-clause-back
returns-clause-back c held = unsealed-sealed 0 1 held

pub returns-clause-only : goal.returns-clause-only
returns-clause-only c stored held is = sealed-unsealed 0 1 stored held is
