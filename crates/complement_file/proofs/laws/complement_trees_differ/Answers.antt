use Rattle.complement_file.proofs.TreesDiffer.{apart}
use Rattle.complement_file.proofs.laws.complement_trees_differ.Goals as goal

pub returns : goal.returns
returns c = λ l one other typed h k same. apart l typed one other h k same
