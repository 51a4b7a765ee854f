use Rattle.law_rebase.proofs.CarriedWords.{carried_joined}
use Rattle.law_rebase.proofs.joined_words_are_carried.Goals as goal

pub returns : goal.returns
returns c = λ t b v w. carried_joined v w t b
