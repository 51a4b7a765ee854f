use Rattle.std.proofs.Common.{◌≡◌, length}
use Rattle.edit_module.specs.Views.{entry_trees}
use Rattle.json_tokens.specs.TreesAt.{read_items_at}
use Rattle.edit_tokens.specs.Changes.{entries_in}
use Rattle.edit_tokens.proofs.ReadingChanges.{onto_entries}
use Rattle.edit_tokens.proofs.changes.take_entries.Given as goal

-- the entries so far, and those that are left, are those of all
abbrev pub invariant-loop-alloc : goal.invariant-loop-alloc
invariant-loop-alloc l = read_items_at entries_in 125 l.initial.reader ≡ onto_entries (entry_trees l.entries.items) (read_items_at entries_in 125 l.reader)

abbrev pub decreases-loop-alloc : goal.decreases-loop-alloc
decreases-loop-alloc l = length l.reader
