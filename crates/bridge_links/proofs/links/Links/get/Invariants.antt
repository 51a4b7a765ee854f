use Rattle.std.proofs.Common.{◌≡◌, drop}
use Rattle.bridge_links.specs.Links.{all_links, link_at}
use Rattle.bridge_links.proofs.links.Links.get.Given as goal

abbrev pub invariant-loop-i : goal.invariant-loop-i
invariant-loop-i l = link_at (all_links (drop l.i l.runs)) l.left ≡ link_at (all_links l.runs) l.place
