use Rattle.sealed_log.proofs.MovedRecords.{seals_begin, seals_stay}
use Rattle.sealed_log.proofs.laws.different_seals_stay_different.Goals as goal

pub returns-clause-chain : goal.returns-clause-chain
returns-clause-chain c before other number held l m small h unlike = seals_stay before other number held l m small h unlike

pub returns-clause-begin : goal.returns-clause-begin
returns-clause-begin c before number one other small h k d = seals_begin before number one other small h k d
