use Rattle.std.proofs.Common.{◌≡◌, map, take}
use Rattle.bridge_links.specs.declared.link.Link.TheVariants.{Stays}
use Rattle.bridge_lists.proofs.bridge.ordered.Given as goal

abbrev pub invariant-loop-place : goal.invariant-loop-place
invariant-loop-place l = l.plan ≡ map Stays (take l.place-index l.places)
