use Rattle.std.proofs.Common.{◌≡◌, ◌++◌, drop}
use Rattle.bridge_links.specs.Links.{all_links}
use Rattle.bridge_links.proofs.links.Links.copy.Given as goal

abbrev pub invariant-loop-i : goal.invariant-loop-i
invariant-loop-i l = l.links ++ all_links (drop l.i l.runs) ≡ all_links l.runs
