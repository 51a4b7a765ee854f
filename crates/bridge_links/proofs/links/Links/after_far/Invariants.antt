use Rattle.std.proofs.Common.{◌≡◌, ◌++◌, map, drop}
use Rattle.bridge_links.specs.Links.{followed, all_links}
use Rattle.bridge_links.proofs.links.Links.after_far.Given as goal

abbrev pub invariant-loop-i : goal.invariant-loop-i
invariant-loop-i l = l.links ++ map (followed l.plan) (all_links (drop l.i l.runs)) ≡ map (followed l.plan) (all_links l.runs)
