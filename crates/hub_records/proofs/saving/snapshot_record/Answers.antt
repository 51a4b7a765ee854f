use Rattle.edit_json.proofs.Writing.{whatever_ok}
use Rattle.hub_records.proofs.saving.snapshot_record.Goals as goal

pub returns-clause-ints : goal.returns-clause-ints
returns-clause-ints c = whatever_ok c.record_named.result c.in_ok-content.ensures.ints
