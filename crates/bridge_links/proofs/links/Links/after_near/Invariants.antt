use Rattle.std.proofs.Common.{◌≡◌, ◌++◌, drop}
use Rattle.bridge_links.specs.Links.{near_planned, all_links}
use Rattle.bridge_links.proofs.links.Links.after_near.Given as goal

abbrev pub invariant-loop-i : goal.invariant-loop-i
invariant-loop-i l = l.links ++ near_planned l.next (all_links (drop l.i l.runs)) l.self ≡ near_planned l.fn.fresh (all_links l.runs) l.self
