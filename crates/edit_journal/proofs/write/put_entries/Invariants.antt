use Rattle.std.proofs.Common.{◌≡◌, ◌++◌, drop}
use Rattle.edit_module.specs.Views.{entry_trees}
use Rattle.edit_journal.specs.EntryJson.{entries_numbers_fit}
use Rattle.edit_journal.proofs.GroupItems.{entries_from}
use Rattle.edit_journal.proofs.write.put_entries.Given as goal

abbrev pub invariant-loop-entry : goal.invariant-loop-entry
invariant-loop-entry l =
    (l.out.before ≡ l.initial.out.before)
    × (l.out.tokens ++ entries_from l.entries l.entry-index ≡ l.initial.out.tokens ++ entries_from l.entries 0)
    × (entries_numbers_fit (entry_trees l.entries) ≡ entries_numbers_fit (entry_trees (drop l.entry-index l.entries)))
