use Rattle.edit_journal.proofs.TreesDiffer.{entries_differ, changes_differ}
use Rattle.edit_journal.proofs.laws.trees_differ.Goals as goal

pub returns-clause-entries : goal.returns-clause-entries
returns-clause-entries c = entries_differ

pub returns-clause-changes : goal.returns-clause-changes
returns-clause-changes c = changes_differ
