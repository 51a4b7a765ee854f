use Rattle.edit_journal.proofs.Entries.{whole, shallow}
use Rattle.edit_journal.proofs.Groups.{entries_whole, change_whole, change_shallow}
use Rattle.edit_journal.proofs.laws.trees_are_shallow.Goals as goal

pub returns-clause-no_float : goal.returns-clause-no_float
returns-clause-no_float c = change_whole

pub returns-clause-entry_no_float : goal.returns-clause-entry_no_float
returns-clause-entry_no_float c = whole

pub returns-clause-entries_no_float : goal.returns-clause-entries_no_float
returns-clause-entries_no_float c = entries_whole

pub returns-clause-entry_nests : goal.returns-clause-entry_nests
returns-clause-entry_nests c = shallow

pub returns-clause-nests : goal.returns-clause-nests
returns-clause-nests c = change_shallow
