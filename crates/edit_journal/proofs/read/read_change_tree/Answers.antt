use Rattle.serde_json.specs.View.{view}
use Rattle.edit_journal.proofs.Reading.{tree_counts, tree_given, tree_refused}
use Rattle.edit_journal.proofs.read.read_change_tree.Goals as goal

pub returns-clause-fits : goal.returns-clause-fits
returns-clause-fits c = tree_counts c.read_change.result (view c.args.tree.now) c.read_change.ensures

pub returns-clause-tree : goal.returns-clause-tree
returns-clause-tree c = tree_given c.read_change.result (view c.args.tree.now) c.read_change.ensures

pub returns-clause-refused : goal.returns-clause-refused
returns-clause-refused c = tree_refused c.read_change.result (view c.args.tree.now) c.read_change.ensures
