use Rattle.value_json.proofs.TreeDepths.{whole, shallow}
use Rattle.value_json.proofs.laws.trees_are_shallow.Goals as goal

pub returns-clause-no_float : goal.returns-clause-no_float
returns-clause-no_float c = whole

pub returns-clause-nests : goal.returns-clause-nests
returns-clause-nests c = shallow
