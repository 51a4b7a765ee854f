use Rattle.std.proofs.Common.{◌≡◌, ◌<◌, ◌≤◌, true, length, map, sym, ap, ◌∙◌, arith}
use Rattle.doc_values.specs.Documents.{DocTree, doc_tree}
use Rattle.doc_values.specs.Types.{ty_tree}
use Rattle.doc_values.specs.Typing.{has}
use Rattle.edit_module.specs.Action.{act}
use Rattle.edit_module.specs.Depths.{word_depth}
use Rattle.edit_module.specs.Views.{primitive_tree}
use Rattle.edit_module.specs.Words.{WordTree, word_of}
use Rattle.edit_module.proofs.ActionKeepsTypes.{has_primitive}
use Rattle.edit_module.proofs.WordSteps.{later-none, act-more, act-all}
use Rattle.bridge_core.specs.Bridges.{BridgeTree, bridge_tree}
use Rattle.bridge_core.specs.Bridged.{bridge}
use Rattle.bridge_core.proofs.Walks.{bridge-next, bridge-done, part-depth}
use Rattle.bridge_core.proofs.bridging.+walk.Goals as goal

pub walk-loop-i-preserved : goal.walk-loop-i-preserved
walk-loop-i-preserved t c =
    let l = c.loop-i in
    let ty = ty_tree c.args.ty.now in
    let ps = c.as_slice-primitives.result.now in
    let p = c.index-primitives-i.result in
    let next = c.in-Ok.next in
    let v = doc_tree l.current.value in
    let u = doc_tree next.value in
    let within : l.i < length ps = omega (arith, c.loop-i-test.true) in
    record {
      typed = has_primitive ty (primitive_tree p) v u c.requires.well_formed l.invariant.typed c.in-Ok.ensures.value;
      left = sym (act-more ty ps l.i p v u within c.index-primitives-i.is c.in-Ok.ensures.value) ∙ l.invariant.left;
      over = bridge-next ty ps l.i p v u (bridge_tree l.current.bridge) (bridge_tree next.bridge) within c.index-primitives-i.is c.in-Ok.ensures.value c.in-Ok.ensures.bridge ∙ l.invariant.over;
    }

pub walk-returns-clause-value : goal.walk-returns-clause-value
walk-returns-clause-value t c =
    let l = c.loop-i in
    let ty = ty_tree c.args.ty.now in
    let ps = c.as_slice-primitives.result.now in
    let past : length ps ≤ l.i = omega (arith, c.loop-i-test.false) in
    ap (λ (w : WordTree). act ty w (doc_tree c.args.doc.now)) (sym c.as_slice-primitives.ensures)
    ∙ (sym l.invariant.left ∙ act-all ty ps l.i (doc_tree l.current.value) past)

pub walk-returns-clause-bridge : goal.walk-returns-clause-bridge
walk-returns-clause-bridge t c =
    let l = c.loop-i in
    let ty = ty_tree c.args.ty.now in
    let ps = c.as_slice-primitives.result.now in
    let past : length ps ≤ l.i = omega (arith, c.loop-i-test.false) in
    sym (bridge-done ty ps l.i (doc_tree l.current.value) (bridge_tree l.current.bridge) past)
    ∙ (l.invariant.over ∙ ap (λ (w : WordTree). bridge ty w (doc_tree c.args.doc.now) (bridge_tree c.args.before.now)) c.as_slice-primitives.ensures)

pub walk-loop-i-init : goal.walk-loop-i-init
walk-loop-i-init t c =
    let ty = ty_tree c.args.ty.now in
    let w = word_of (map primitive_tree c.as_slice-primitives.result.now) in
    let same : doc_tree c.in_ok-current.current.value ≡ doc_tree c.args.doc.now = c.in_ok-current.ensures.value in
    let over : bridge_tree c.in_ok-current.current.bridge ≡ bridge_tree c.args.before.now = c.in_ok-current.ensures.bridge in
    record {
      typed = ap (λ (d : DocTree). has ty d) same ∙ c.requires.typed;
      left = later-none (act ty w (doc_tree c.in_ok-current.current.value)) ∙ ap (λ (d : DocTree). act ty w d) same;
      over = ap (λ (d : DocTree). bridge ty w d (bridge_tree c.in_ok-current.current.bridge)) same ∙ ap (λ (b : BridgeTree). bridge ty w (doc_tree c.args.doc.now) b) over;
    }

pub walk-step-requires : goal.walk-step-requires
walk-step-requires t c =
    let ps = c.as_slice-primitives.result.now in
    let p = c.index-primitives-i.result in
    let within : c.loop-i.i < length ps = omega (arith, c.loop-i-test.true) in
    let deep = part-depth ps c.loop-i.i p within c.index-primitives-i.is in
    let same = ap word_depth c.as_slice-primitives.ensures in
    (omega (arith, deep, same), (c.requires.well_formed, c.loop-i.invariant.typed))
