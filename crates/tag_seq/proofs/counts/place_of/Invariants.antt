use Rattle.std.proofs.Common.{length, ◌-◌, ◌≤◌}
use Rattle.tag_seq.specs.Numbers.{pairs_before}
use Rattle.tag_seq.proofs.counts.place_of.Given as goal

abbrev pub invariant-loop-low : goal.invariant-loop-low
invariant-loop-low l = record {
  low : l.low ≤ pairs_before l.tag l.pairs;
  high : pairs_before l.tag l.pairs ≤ l.high;
  within : l.high ≤ length l.pairs;
}

abbrev pub decreases-loop-low : goal.decreases-loop-low
decreases-loop-low l = l.high - l.low
