use Rattle.run_link.proofs.Reading.{line_counts, line_given, line_refused}
use Rattle.run_link.proofs.read.read_event.Goals as goal

pub returns-clause-fits : goal.returns-clause-fits
returns-clause-fits c = line_counts c.read_line.result c.args.line.now c.read_line.ensures

pub returns-clause-tree : goal.returns-clause-tree
returns-clause-tree c = line_given c.read_line.result c.args.line.now c.read_line.ensures

pub returns-clause-refused : goal.returns-clause-refused
returns-clause-refused c = line_refused c.read_line.result c.args.line.now c.read_line.ensures
