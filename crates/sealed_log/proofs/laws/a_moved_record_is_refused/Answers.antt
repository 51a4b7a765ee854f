use Rattle.sealed_log.proofs.MovedRecords.{moved}
use Rattle.sealed_log.proofs.laws.a_moved_record_is_refused.Goals as goal

pub returns : goal.returns
returns c held front back others before behind rest it here there unlike lm ln =
    moved held front back others before behind rest it here there unlike lm ln
