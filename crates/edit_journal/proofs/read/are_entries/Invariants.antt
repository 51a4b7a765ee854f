use Rattle.std.proofs.Common.{◌≡◌, drop}
use Rattle.serde_json.specs.View.{items_view}
use Rattle.edit_journal.specs.EntryJson.{are_entries}
use Rattle.edit_journal.proofs.read.are_entries.Given as goal

-- the answer is that of what is left
abbrev pub invariant-loop-item : goal.invariant-loop-item
invariant-loop-item l = are_entries (items_view (drop l.item-index l.items)) ≡ are_entries (items_view l.items)
