use Rattle.record_sums.proofs.Noticed.{record_sum-payload}
use Rattle.record_sums.proofs.Differences.{differ-one_byte}
use Rattle.record_sums.proofs.ByteBits.{each_byte}
use Rattle.record_sums.proofs.laws.a_changed_byte_is_noticed.Goals as goal

pub returns : goal.returns
returns c before number one other h k d =
    let one_bytes = each_byte one h in
    let other_bytes = each_byte other k in
    record_sum-payload before number one other one_bytes other_bytes (differ-one_byte one other one_bytes other_bytes d)
