use Rattle.hub_records.proofs.HubGroups.{line_counts}
use Rattle.hub_records.proofs.change.read_hub_change.Goals as goal

pub returns-clause-fits : goal.returns-clause-fits
returns-clause-fits c = line_counts c.read_line.result c.args.line.now c.read_line.ensures
