use Rattle.view_hub.proofs.ActingWords.{words_act}
use Rattle.view_hub.proofs.laws.words_of_steps_act.Goals as goal

pub returns : goal.returns
returns g c = words_act g.L.EditLens g.met.L.EditLens.consistent_is_typed
