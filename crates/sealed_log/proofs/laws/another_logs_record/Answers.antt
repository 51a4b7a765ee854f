use Rattle.sealed_log.proofs.MovedRecords.{opened-behind_other, opened-if_same}
use Rattle.sealed_log.proofs.laws.another_logs_record.Goals as goal

pub returns-clause-taken : goal.returns-clause-taken
returns-clause-taken c before other number payload l m small h = opened-if_same before other number payload l m small h

pub returns-clause-refused : goal.returns-clause-refused
returns-clause-refused c before other number payload l m small h unlike = opened-behind_other before other number payload l m small h unlike
