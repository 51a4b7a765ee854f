use Rattle.std.proofs.Common.{length, drop, ◌-◌, ◌≡◌, ◌≤◌, ◌+◌, ◌++◌}
use Rattle.tag_seq.specs.Numbers.{merged}
use Rattle.tag_seq.proofs.counts.merge.Given as goal

abbrev pub invariant-loop-i : goal.invariant-loop-i
invariant-loop-i l = record {
  our_place : l.i ≤ length l.ours;
  their_place : l.j ≤ length l.theirs;
  sum : merged l.ours l.theirs ≡ l.pairs.items ++ merged (drop l.i l.ours) (drop l.j l.theirs);
}

abbrev pub decreases-loop-i : goal.decreases-loop-i
decreases-loop-i l = (length l.ours - l.i) + (length l.theirs - l.j)
