use Rattle.std.proofs.Common.{◌+◌, ◌<◌, ◌≤◌, length, map, drop, sym, ap, ◌∙◌, arith}
use Rattle.doc_values.specs.Types.{ty_tree}
use Rattle.edit_module.specs.Depths.{word_depth}
use Rattle.edit_module.specs.Views.{primitive_tree, word_tree}
use Rattle.edit_module.specs.Words.{WordTree, word_of}
use Rattle.bridge_core.specs.Bridges.{BridgeTree, bridge_tree}
use Rattle.bridge_core.specs.Carried.{in_front, carry}
use Rattle.bridge_core.proofs.Walks.{front-none, carry-next, carry-refused, carry-done, stay-row, part-depth}
use Rattle.bridge_core.proofs.carrying.+walk.Goals as goal

pub walk-loop-i-init : goal.walk-loop-i-init
walk-loop-i-init t c =
    let ty = ty_tree c.args.ty.now in
    let w = word_of (map primitive_tree c.as_slice-primitives.result.now) in
    ap (λ (q : WordTree × BridgeTree). in_front q.0 (carry ty q.1 w)) c.in_ok-current.ensures ∙ front-none (carry ty (bridge_tree c.args.bridge.now) w)

pub walk-loop-i-preserved : goal.walk-loop-i-preserved
walk-loop-i-preserved t c =
    let l = c.loop-i in
    let ty = ty_tree c.args.ty.now in
    let ps = c.as_slice-primitives.result.now in
    let p = c.index-primitives-i.result in
    let next = c.in-Ok.next in
    let within : l.i < length ps = omega (arith, c.loop-i-test.true) in
    let rest = word_of (map primitive_tree (drop (l.i + 1) ps)) in
    ap (λ (q : WordTree × BridgeTree). in_front q.0 (carry ty q.1 rest)) c.in_ok-current-in-Ok.ensures
    ∙ (carry-next ty ps l.i p (bridge_tree l.current.bridge) (bridge_tree next.bridge) (word_tree l.current.word) (word_tree next.word) within c.index-primitives-i.is c.in-Ok.ensures ∙ l.invariant)

pub walk-returns : goal.walk-returns
walk-returns t c =
    let l = c.loop-i in
    let ty = ty_tree c.args.ty.now in
    let ps = c.as_slice-primitives.result.now in
    let past : length ps ≤ l.i = omega (arith, c.loop-i-test.false) in
    ap (λ (w : WordTree). carry ty (bridge_tree c.args.bridge.now) w) (sym c.as_slice-primitives.ensures)
    ∙ (sym l.invariant ∙ carry-done ty ps l.i (bridge_tree l.current.bridge) (word_tree l.current.word) past)

pub walk-returns-in-Err : goal.walk-returns-in-Err
walk-returns-in-Err t c =
    let l = c.loop-i in
    let ty = ty_tree c.args.ty.now in
    let ps = c.as_slice-primitives.result.now in
    let p = c.index-primitives-i.result in
    let within : l.i < length ps = omega (arith, c.loop-i-test.true) in
    carry-refused ty ps l.i p (bridge_tree l.current.bridge) (word_tree l.current.word) (carry ty (bridge_tree c.args.bridge.now) (word_tree c.args.word.now)) c.in-Err.fault within c.index-primitives-i.is
    (l.invariant ∙ ap (λ (w : WordTree). carry ty (bridge_tree c.args.bridge.now) w) c.as_slice-primitives.ensures) c.in-Err.ensures

pub walk-step-requires : goal.walk-step-requires
walk-step-requires t c =
    let ps = c.as_slice-primitives.result.now in
    let p = c.index-primitives-i.result in
    let within : c.loop-i.i < length ps = omega (arith, c.loop-i-test.true) in
    let deep = part-depth ps c.loop-i.i p within c.index-primitives-i.is in
    let same = ap word_depth c.as_slice-primitives.ensures in
    omega (arith, deep, same)

pub on_arm-returns-in-Stay : goal.on_arm-returns-in-Stay
on_arm-returns-in-Stay t c =
    stay-row (ty_tree c.args.ty.now) c.args.tag.now c.in-Stay.held (bridge_tree c.args.bridge.now) c.in-Stay.word c.args.primitive.now c.stayed.result c.in-Stay.is c.stayed.ensures
