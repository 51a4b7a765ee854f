use Rattle.std.proofs.Common.{◌≡◌, ◌<◌, ◌≤◌, ◌+◌, drop, length}
use Rattle.bridge_links.specs.Links.{all_links}
use Rattle.bridge_links.proofs.Found.{AreFrom}
use Rattle.bridge_links.proofs.links.Links.find.Given as goal

abbrev pub invariant-loop-i : goal.invariant-loop-i
invariant-loop-i l = record {
  from : AreFrom l.place l.left l.before l.i l.runs;
  some : 0 < l.left;
  most : l.left ≤ l.most;
  count : l.before + length (all_links (drop l.i l.runs)) ≡ length (all_links l.runs);
}
