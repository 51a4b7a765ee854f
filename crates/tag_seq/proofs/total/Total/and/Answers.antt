use Rattle.std.proofs.Common.{refl, arith}
use Rattle.tag_seq.proofs.Totals.{totals_around}
use Rattle.tag_seq.proofs.total.Total.and.Goals as goal

pub returns : goal.returns
returns c = λ xs ys a b. totals_around c.args.self.now.size c.args.size _ c.args.tag c.args.self.now.counts c.args.counts.now c.in_ok-counts.counts xs ys a b refl (λ t. omega (arith, c.in_ok-counts.ensures.each t, c.in_ok-front.ensures.each t, c.in_ok-one.ensures t))
