use Rattle.tag_seq.proofs.Numbers.{number-merged, map-merged}
use Rattle.tag_seq.proofs.counts.CountsMeasure.plus.Goals as goal

pub invariant_of-result : goal.invariant_of-result
invariant_of-result c = rw (c.in_ok-pairs.ensures, c.as_slice.ensures.value, c.as_slice-2.ensures.value) (map-merged c.self.inside.pairs.items c.other.inside.pairs.items c.self.invariant c.other.invariant)

pub returns-clause-each : goal.returns-clause-each
returns-clause-each c = λ t. rw (c.in_ok-pairs.ensures, c.as_slice.ensures.value, c.as_slice-2.ensures.value, ← c.self.view_is, ← c.other.view_is) (number-merged t c.self.inside.pairs.items c.other.inside.pairs.items)
