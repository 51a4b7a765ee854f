use Rattle.std.proofs.Common.{◌≤◌, ℕ}
use Rattle.tag_seq.specs.Numbers.{number}
use Rattle.tag_seq.proofs.Numbers.{number-reduced, map-reduced}
use Rattle.tag_seq.proofs.counts.Counts.minus.Goals as goal

pub invariant_of-result : goal.invariant_of-result
invariant_of-result c = rw (c.in_ok-pairs.ensures, c.as_slice.ensures.value, c.as_slice-2.ensures.value) (map-reduced c.self.inside.pairs.items c.other.inside.pairs.items c.self.invariant)

pub returns : goal.returns
returns c =
    let among : (t : ℕ) → number t c.other.inside.pairs.items ≤ number t c.self.inside.pairs.items = rw (c.self.view_is, c.other.view_is) c.requires in
    λ t. rw (c.in_ok-pairs.ensures, c.as_slice.ensures.value, c.as_slice-2.ensures.value, ← c.self.view_is, ← c.other.view_is) (number-reduced c.self.inside.pairs.items c.other.inside.pairs.items c.self.invariant c.other.invariant among t)
