use Rattle.std.proofs.Common.{arith, ◌-◌}
use Rattle.tag_seq.proofs.Numbers.{is_below_last_at}
use Rattle.tag_seq.proofs.counts.Counts.is_below.Goals as goal

pub returns-else-len-eq0 : goal.returns-else-len-eq0
returns-else-len-eq0 c = rw (← c.self.view_is) (is_below_last_at c.self.inside.pairs.items (c.len-len.result - 1) c.args.bound c.index.result.now c.self.invariant (omega arith) c.index.ensures)
