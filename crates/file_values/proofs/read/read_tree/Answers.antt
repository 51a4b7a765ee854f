use Rattle.file_trees.specs.FileTrees.{file_tree}
use Rattle.file_forms.specs.Forms.{file_form_tree}
use Rattle.file_values.proofs.ReadTrees.{read_found, read_back}
use Rattle.file_values.proofs.read.read_tree.Goals as goal

pub returns-clause-read : goal.returns-clause-read
returns-clause-read c = read_found c.read.result (file_form_tree c.args.form.now) (file_tree c.args.tree.now) c.read.ensures

pub returns-clause-comes_back : goal.returns-clause-comes_back
returns-clause-comes_back c = read_back c.read.result (file_form_tree c.args.form.now) (file_tree c.args.tree.now) c.read.ensures
