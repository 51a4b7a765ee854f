use Rattle.std.proofs.Common.{◌≡◌, map, take}
use Rattle.bridge_links.specs.declared.link.Link.TheVariants.{Moved}
use Rattle.bridge_lists.proofs.orders.moved_order.Given as goal

abbrev pub invariant-loop-place : goal.invariant-loop-place
invariant-loop-place l = l.plan ≡ map Moved (take l.place-index l.places)
