use Rattle.std.proofs.Common.{◌≤◌, ◌<◌, length, sym, ap, ◌∙◌, arith}
use Rattle.std.proofs.lemmas.Result.{IfOk-weaker}
use Rattle.bridge_core.specs.declared.bridge.Bridges.{out-Bridges}
use Rattle.bridge_core.specs.Bridges.{BridgeTrees, bridge_at}
use Rattle.bridge_core.proofs.BridgeItems.{bridges_tree-out, bridge_tree-Same, at-place, past-place}
use Rattle.bridge_core.proofs.bridge.Bridges.at.Goals as goal

pub returns-then-place-len : goal.returns-then-place-len
returns-then-place-len c =
    let self = out-Bridges c.args.self.now in
    let past : length self.items.items ≤ c.args.place = omega (arith, self.items.ok.0) in
    bridge_tree-Same
    ∙ (past-place self.items.items c.args.place past
    ∙ ap (λ (bs : BridgeTrees). bridge_at bs c.args.place) (sym (bridges_tree-out c.args.self.now)))

pub returns : goal.returns
returns c =
    let self = out-Bridges c.args.self.now in
    let within : c.args.place < length self.items.items = omega (arith, self.items.ok.0) in
    let found =
    at-place self.items.items c.args.place c.index.result.now within c.index.ensures
    ∙ ap (λ (bs : BridgeTrees). bridge_at bs c.args.place) (sym (bridges_tree-out c.args.self.now)) in
    IfOk-weaker c.copy.result _ _ (λ b h. h ∙ found) c.copy.ensures
