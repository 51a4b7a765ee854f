use Rattle.std.proofs.Common.{◌≡◌, Ok, subst, ◌∙◌}
use Rattle.doc_values.specs.Types.{ty_tree}
use Rattle.edit_module.specs.Views.{word_tree}
use Rattle.bridge_core.specs.Bridges.{BridgeTree}
use Rattle.bridge_core.specs.Carried.{carry}
use Rattle.bridge_core.specs.Refusals.{carried_tree, IsNotCarried}
use Rattle.based_session.proofs.KeptLists.{through_next, through_stops}
use Rattle.based_session.proofs.rebasing.through.Goals as goal

pub returns-in-Err : goal.returns-in-Err
returns-in-Err c =
    let l = c.loop-i in
    let t = ty_tree c.args.ty.now in
    let w = word_tree l.current in
    let refused = subst (λ (b : BridgeTree). IsNotCarried (carry t b w) c.in-Err.fault) c.on.ensures c.in-Err.ensures.exact in
    through_stops t c.args.side c.args.kept.now l.i c.index-kept-i.result w _ c.in-Err.fault c.loop-i-test.true c.index-kept-i.is l.invariant refused

pub loop-i-preserved : goal.loop-i-preserved
loop-i-preserved c =
    let l = c.loop-i in
    let t = ty_tree c.args.ty.now in
    let w = word_tree l.current in
    let carried = subst (λ (b : BridgeTree). carry t b w ≡ Ok (carried_tree c.in-Ok.next)) c.on.ensures c.in-Ok.ensures.exact in
    through_next t c.args.side c.args.kept.now l.i c.index-kept-i.result w (carried_tree c.in-Ok.next) c.loop-i-test.true c.index-kept-i.is carried ∙ l.invariant
