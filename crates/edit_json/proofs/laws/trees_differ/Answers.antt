use Rattle.edit_json.proofs.TreesDiffer.{words_differ}
use Rattle.edit_json.proofs.laws.trees_differ.Goals as goal

pub returns : goal.returns
returns c = words_differ
