use Rattle.edit_module.proofs.NormalDepths.{normal-merged}
use Rattle.edit_module.proofs.laws.normal_is_merged.Goals as goal

pub returns : goal.returns
returns c = normal-merged
