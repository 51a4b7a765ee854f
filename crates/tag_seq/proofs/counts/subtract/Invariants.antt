use Rattle.std.proofs.Common.{length, drop, ◌-◌, ◌≡◌, ◌≤◌, ◌++◌}
use Rattle.tag_seq.specs.Numbers.{reduced}
use Rattle.tag_seq.proofs.counts.subtract.Given as goal

abbrev pub invariant-loop-i : goal.invariant-loop-i
invariant-loop-i l = record {
  our_place : l.i ≤ length l.ours;
  their_place : l.j ≤ length l.theirs;
  rest : reduced l.ours l.theirs ≡ l.pairs.items ++ reduced (drop l.i l.ours) (drop l.j l.theirs);
}

abbrev pub decreases-loop-i : goal.decreases-loop-i
decreases-loop-i l = length l.ours - l.i
