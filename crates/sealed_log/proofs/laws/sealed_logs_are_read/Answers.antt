use Rattle.sealed_log.proofs.Openings.{is_read}
use Rattle.sealed_log.proofs.laws.sealed_logs_are_read.Goals as goal

pub returns : goal.returns
returns c held bytes = is_read held bytes
