use Rattle.std.proofs.Common.{◌≡◌, drop}
use Rattle.serde_json.specs.View.{items_view}
use Rattle.view_hub.specs.Views.{edit_trees}
use Rattle.hub_records.specs.HubChanges.{edits_of_items}
use Rattle.hub_records.proofs.HubGroups.{behind}
use Rattle.hub_records.proofs.change.read_edits.Given as goal

-- the edits so far, and those of what is left, are those of all
abbrev pub invariant-loop-item : goal.invariant-loop-item
invariant-loop-item l =
    edits_of_items (items_view l.items) ≡ behind (edit_trees l.edits.items) (edits_of_items (items_view (drop l.item-index l.items)))
