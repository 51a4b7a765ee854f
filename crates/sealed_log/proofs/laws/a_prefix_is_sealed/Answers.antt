use Rattle.sealed_log.proofs.Appends.{sealed-append}
use Rattle.sealed_log.proofs.laws.a_prefix_is_sealed.Goals as goal

pub returns : goal.returns
returns c held more = sealed-append 0 1 held more
