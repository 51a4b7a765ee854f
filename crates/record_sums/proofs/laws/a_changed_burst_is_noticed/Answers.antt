use Rattle.record_sums.proofs.Noticed.{record_sum-payload}
use Rattle.record_sums.proofs.ByteBits.{each_byte}
use Rattle.record_sums.proofs.laws.a_changed_burst_is_noticed.Goals as goal

pub returns : goal.returns
returns c before number one other h k d = record_sum-payload before number one other (each_byte one h) (each_byte other k) d
