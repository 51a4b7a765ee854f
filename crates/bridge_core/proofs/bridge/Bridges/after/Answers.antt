use Rattle.std.proofs.Common.{List, ◌∙◌}
use Rattle.std.proofs.lemmas.Iterator.Consumers.{YieldsList-end, YieldsList-from_first}
use Rattle.hold_shapes.specs.declared.origins.Origin.{Origin}
use Rattle.bridge_core.specs.Bridges.{bridges_tree}
use Rattle.bridge_core.proofs.BridgeItems.{bridges_tree-out, after-all}
use Rattle.bridge_core.proofs.bridge.Bridges.after.Goals as goal

pub returns : goal.returns
returns c =
    let l = c.loop-origin in
    let t =
    YieldsList-end (YieldsList-from_first (λ (o : Origin). o) (λ (os : List Origin). os) c.args.from.now c.into_iter-origin-iterator.ensures.into_iter_gives)
    l.yielded _ l.yielded_by _ _ c.in-None.is c.next.ensures.steps in
    bridges_tree-out _ ∙ after-all (bridges_tree c.args.self.now) l.items.items l.yielded c.args.from.now t.0 l.invariant
