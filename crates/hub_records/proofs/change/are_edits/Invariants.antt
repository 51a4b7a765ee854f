use Rattle.std.proofs.Common.{◌≡◌, drop}
use Rattle.serde_json.specs.View.{items_view}
use Rattle.hub_records.specs.HubChanges.{are_edits}
use Rattle.hub_records.proofs.change.are_edits.Given as goal

-- the answer is that of what is left
abbrev pub invariant-loop-item : goal.invariant-loop-item
invariant-loop-item l = are_edits (items_view (drop l.item-index l.items)) ≡ are_edits (items_view l.items)
