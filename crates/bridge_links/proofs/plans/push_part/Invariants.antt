use Rattle.std.proofs.Common.{◌≡◌, ◌++◌}
use Rattle.bridge_links.specs.Links.{part_at, part_put}
use Rattle.bridge_links.proofs.Gathered.{AreLeft}
use Rattle.bridge_links.proofs.plans.push_part.Given as goal

abbrev pub invariant-loop-i : goal.invariant-loop-i
invariant-loop-i l = AreLeft l.moved l.links l.runs l.i l.skip l.left (l.fn.links ++ part_put l.fn.moved (part_at l.fn.old l.fn.place l.fn.count))
