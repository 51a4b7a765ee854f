use Rattle.std.proofs.Common.{arith}
use Rattle.edit_inverse.proofs.Building.{modify-pushed}
use Rattle.edit_between.proofs.words.push_modify.Goals as goal

pub returns-in_ok-push : goal.returns-in_ok-push
returns-in_ok-push c = λ rest. modify-pushed c.args.out.now.items c.push.new.self.items c.args.place c.args.word rest c.in_ok-push.ensures.items (λ e. omega (arith, e, c.len.ensures, c.if-len-ne0.true))
