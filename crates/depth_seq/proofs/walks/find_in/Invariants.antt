use Rattle.std.proofs.Common.{◌≡◌, ◌+◌, ◌≤◌, drop}
use Rattle.depth_seq.specs.Searches.{search}
use Rattle.depth_seq.proofs.walks.find_in.Given as goal

abbrev pub invariant-loop-i : goal.invariant-loop-i
invariant-loop-i l = record {
  same : search l.depth l.number (l.at + l.i) l.count (drop l.i l.chunk) ≡ search l.depth l.number (l.at + l.first) l.passed (drop l.first l.chunk);
  few : l.count ≤ l.number;
}
