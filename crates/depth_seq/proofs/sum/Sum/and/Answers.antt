use Rattle.std.proofs.Common.{arith, refl}
use Rattle.depth_seq.proofs.Sums.{least_ahead, least_behind, least_both}
use Rattle.depth_seq.proofs.sum.Sum.and.Goals as goal

pub returns-then-self-next : goal.returns-then-self-next
returns-then-self-next c = λ xs ys a b.
    least_ahead c.args.self.now c.args.next.now _ xs ys a b (omega arith) (omega arith) refl c.if-self-next.true refl refl

pub returns-then-next-self : goal.returns-then-next-self
returns-then-next-self c = λ xs ys a b.
    least_behind c.args.self.now c.args.next.now _ xs ys a b (omega arith) (omega arith) refl c.if-next-self.true refl refl

pub returns-else-next-self : goal.returns-else-next-self
returns-else-next-self c = λ xs ys a b.
    least_both c.args.self.now c.args.next.now _ xs ys a b (omega arith) (omega arith) refl (omega arith) refl refl
