use Rattle.edit_json.proofs.Writing.{whatever_ok}
use Rattle.store_records.proofs.payloads.snapshot_record.Goals as goal

pub returns-clause-left_ints : goal.returns-clause-left_ints
returns-clause-left_ints c = whatever_ok c.record_named.result c.in_ok-content.ensures.left_ints

pub returns-clause-right_ints : goal.returns-clause-right_ints
returns-clause-right_ints c = whatever_ok c.record_named.result c.in_ok-content.ensures.right_ints
