use Rattle.law_apply.proofs.PairNumbers.{sessions_alike}
use Rattle.law_apply.proofs.a_pair_is_numbered_alike.Goals as goal

pub returns : goal.returns
returns c = sessions_alike
