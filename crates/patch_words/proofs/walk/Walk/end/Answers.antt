use Rattle.patch_words.proofs.WalkSteps.{ends, none-of}
use Rattle.patch_words.proofs.walk.Walk.end.Goals as goal

pub returns : goal.returns
returns c = λ t f n. ends t f n c.args.self (none-of c.args.self.unread (λ x e. c.in_default.not-Some x e))
