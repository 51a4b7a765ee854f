use Rattle.value_json.proofs.TreesDiffer.{apart}
use Rattle.value_json.proofs.laws.trees_differ.Goals as goal

pub returns : goal.returns
returns c = apart
