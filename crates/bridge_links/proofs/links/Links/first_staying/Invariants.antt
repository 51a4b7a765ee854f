use Rattle.std.proofs.Common.{◌≡◌, drop}
use Rattle.bridge_links.specs.Links.{all_links, first_stay}
use Rattle.bridge_links.proofs.links.Links.first_staying.Given as goal

abbrev pub invariant-loop-i : goal.invariant-loop-i
invariant-loop-i l = first_stay (drop l.skip (all_links (drop l.i l.runs))) ≡ first_stay (drop l.from (all_links l.runs))
