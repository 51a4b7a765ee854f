use Rattle.edit_inverse.proofs.Building.{shape-pushed}
use Rattle.edit_between.proofs.words.push_shape.Goals as goal

pub returns : goal.returns
returns c = λ rest. shape-pushed c.args.out.now.items c.push.new.self.items c.args.edit rest c.in_ok-push.ensures.items
