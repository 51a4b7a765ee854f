use Rattle.edit_module.proofs.NormalActs.{equal-act}
use Rattle.edit_module.proofs.laws.equal_words_act_alike.Goals as goal

pub returns : goal.returns
returns c = equal-act
