use Rattle.record_sums.proofs.ByteBits.{each_byte}
use Rattle.record_sums.proofs.Differences.{differ-one_byte}
use Rattle.sealed_log.proofs.MovedRecords.{changed_burst}
use Rattle.sealed_log.proofs.laws.a_changed_byte_is_refused.Goals as goal

pub returns : goal.returns
returns c held front back rest it changed is h k d =
    changed_burst held front back rest it changed is h k (differ-one_byte it changed (each_byte it h) (each_byte changed k) d)
