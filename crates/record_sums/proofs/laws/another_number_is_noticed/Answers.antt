use Rattle.record_sums.proofs.Noticed.{record_sum-number}
use Rattle.record_sums.proofs.ByteBits.{each_byte}
use Rattle.record_sums.proofs.laws.another_number_is_noticed.Goals as goal

pub returns : goal.returns
returns c before number other payload high h unlike = record_sum-number before number other payload high (each_byte payload h) unlike
