use Rattle.record_sums.proofs.Noticed.{record_sum-before}
use Rattle.record_sums.proofs.ByteBits.{each_byte}
use Rattle.record_sums.proofs.laws.another_checksum_before_is_noticed.Goals as goal

pub returns : goal.returns
returns c before other number payload l m h unlike = record_sum-before before other number payload l m (each_byte payload h) unlike
