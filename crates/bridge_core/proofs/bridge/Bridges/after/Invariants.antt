use Rattle.std.proofs.Common.{◌≡◌, map}
use Rattle.hold_shapes.specs.Gather.{content_at}
use Rattle.bridge_core.specs.Bridges.{same, bridge_list, bridge_tree, bridges_tree}
use Rattle.bridge_core.proofs.bridge.Bridges.after.Given as goal

abbrev pub invariant-loop-origin : goal.invariant-loop-origin
invariant-loop-origin l = map bridge_tree l.items.items ≡ map (content_at (bridge_list (bridges_tree l.self)) same) l.yielded
