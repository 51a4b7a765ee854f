use Rattle.record_sums.proofs.Differences.{differ-one_byte}
use Rattle.record_sums.proofs.ByteBits.{each_byte}
use Rattle.record_sums.proofs.laws.a_changed_byte_is_a_burst.Goals as goal

pub returns : goal.returns
returns c one other h k d = differ-one_byte one other (each_byte one h) (each_byte other k) d
