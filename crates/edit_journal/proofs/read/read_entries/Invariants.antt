use Rattle.std.proofs.Common.{◌≡◌, drop}
use Rattle.serde_json.specs.View.{items_view}
use Rattle.edit_module.specs.Views.{entry_trees}
use Rattle.edit_journal.specs.EntryJson.{entries_of_items}
use Rattle.edit_journal.proofs.GroupItems.{behind}
use Rattle.edit_journal.proofs.read.read_entries.Given as goal

-- the entries so far, and those of what is left, are those of all
abbrev pub invariant-loop-item : goal.invariant-loop-item
invariant-loop-item l =
    entries_of_items (items_view l.items) ≡ behind (entry_trees l.entries.items) (entries_of_items (items_view (drop l.item-index l.items)))
