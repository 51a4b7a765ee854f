use Rattle.std.proofs.Common.{arith}
use Rattle.tag_seq.proofs.Numbers.{number_found_at, number_past_end, number_passed_at}
use Rattle.tag_seq.proofs.counts.Counts.number.Goals as goal

pub returns-then-pair-tag : goal.returns-then-pair-tag
returns-then-pair-tag c = rw (← c.self.view_is) (number_found_at c.args.tag c.self.inside.pairs.items c.place_of-place.result c.index-pair.result.now c.self.invariant (omega arith) c.index-pair.ensures c.if-pair-tag.true)

pub returns-else-pair-tag : goal.returns-else-pair-tag
returns-else-pair-tag c = rw (← c.self.view_is) (number_passed_at c.args.tag c.self.inside.pairs.items c.place_of-place.result c.index-pair.result.now c.self.invariant (rw (← c.as_slice.ensures.value) c.place_of-place.ensures.value) (omega arith) c.index-pair.ensures c.if-pair-tag.false)

pub returns-else-place-len : goal.returns-else-place-len
returns-else-place-len c = rw (← c.self.view_is, ← c.as_slice.ensures.value) (number_past_end c.args.tag c.as_slice.result.now (omega arith))
