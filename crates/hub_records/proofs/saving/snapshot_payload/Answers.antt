use Rattle.std.proofs.Common.{ap, ◌∙◌}
use Rattle.serde_json.specs.View.{view}
use Rattle.serde_json.specs.Written.{has_float}
use Rattle.edit_json.proofs.Writing.{whatever_ok}
use Rattle.store_records.proofs.PayloadTrees.{read_low}
use Rattle.view_hub.specs.Views.{hub_tree}
use Rattle.hub_run.specs.RunStates.{forms_of_lenses}
use Rattle.hub_records.proofs.HubTrees.{snapshot_whole, snapshot_low}
use Rattle.hub_records.proofs.saving.snapshot_payload.Goals as goal

pub snapshot_record-requires : goal.snapshot_record-requires
snapshot_record-requires c = record { in_step = rw (c.lenses-lenses.ensures.lenses, c.parts-parts.ensures.parts) c.parts-parts.ensures.in_step }

pub payload_of-requires : goal.payload_of-requires
payload_of-requires c =
    ap has_float c.in_ok-tree.ensures.tree ∙ snapshot_whole (forms_of_lenses c.lenses-lenses.result.now) (hub_tree c.parts-parts.result.now)

pub returns-clause-reads_back : goal.returns-clause-reads_back
returns-clause-reads_back c =
    let low = snapshot_low (forms_of_lenses c.lenses-lenses.result.now) (hub_tree c.parts-parts.result.now) c.lenses_are_low.ensures in
    rw (c.lenses-lenses.ensures.lenses, c.parts-parts.ensures.parts) at (read_low c.payload_of.result (view c.in_ok-tree.tree) _ c.in_ok-tree.ensures.tree low c.payload_of.ensures.reads_back)

pub returns-clause-ints : goal.returns-clause-ints
returns-clause-ints c = whatever_ok c.payload_of.result (rw c.parts-parts.ensures.parts at c.in_ok-tree.ensures.ints)
