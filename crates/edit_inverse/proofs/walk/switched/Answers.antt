use Rattle.edit_module.specs.Views.{word_tree}
use Rattle.edit_inverse.proofs.walk.switched.Goals as goal

pub returns-clause-back : goal.returns-clause-back
returns-clause-back c = c.in_ok-back.ensures (word_tree c.args.word.now)
