use Rattle.sealed_log.proofs.MovedRecords.{changed_burst}
use Rattle.sealed_log.proofs.laws.a_changed_burst_is_refused.Goals as goal

pub returns : goal.returns
returns c held front back rest it changed is h k d = changed_burst held front back rest it changed is h k d
