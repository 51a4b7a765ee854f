use Rattle.std.proofs.Common.{◌≡◌, map, replicate}
use Rattle.bridge_core.specs.Bridges.{same, bridge_tree}
use Rattle.bridge_core.proofs.bridge.Bridges.same_each.Given as goal

abbrev pub invariant-loop : goal.invariant-loop
invariant-loop l = map bridge_tree l.items.items ≡ replicate l.counter same
