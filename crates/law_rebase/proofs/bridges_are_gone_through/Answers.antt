use Rattle.law_rebase.proofs.CarriedWords.{gone_through}
use Rattle.law_rebase.proofs.bridges_are_gone_through.Goals as goal

pub returns : goal.returns
returns c = λ t bs cs w. gone_through bs cs t w
