use Rattle.std.proofs.Common.{◌≡◌, map, take}
use Rattle.bridge_core.specs.Bridges.{bridge_tree}
use Rattle.bridge_core.proofs.bridge.+copy.Given as goal

abbrev pub invariant-copy_each-loop-bridge : goal.invariant-copy_each-loop-bridge
invariant-copy_each-loop-bridge l = map bridge_tree l.items.items ≡ map bridge_tree (take l.bridge-index l.bridge-items)
