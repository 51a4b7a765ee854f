use Rattle.std.proofs.Common.{◌≡◌, ◌++◌, drop}
use Rattle.bridge_lists.specs.Carried.{far_places}
use Rattle.bridge_lists.proofs.orders.far_places.Given as goal

abbrev pub invariant-loop-i : goal.invariant-loop-i
invariant-loop-i l = l.places.items ++ far_places l.far l.links (drop l.i l.items) ≡ far_places l.far l.links l.items
