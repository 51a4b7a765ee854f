use Rattle.std.proofs.Common.{◌<◌, ◌≤◌, Bool, true, false, length, refl, subst, ◌∙◌, arith}
use Rattle.view_hub.specs.Views.{edit_trees, hub_tree}
use Rattle.hub_undo.specs.UndoSteps.{Stepping}
use Rattle.hub_undo.specs.UndoViews.{carried_trees}
use Rattle.hub_undo.proofs.Steps.{stepping_none, change_over, change_fails, changes_end}
use Rattle.hub_undo.proofs.stepping.undo_each.Goals as goal

pub loop-at-init : goal.loop-at-init
loop-at-init g c =
    let hub = c.args.hub.now in
    record { same = refl; steps = stepping_none g.L.EditLens hub.lenses (hub_tree hub.parts) (carried_trees c.args.parts.now.items) }

pub loop-at-preserved : goal.loop-at-preserved
loop-at-preserved g c =
    let l = c.loop-at in
    let of = g.L.EditLens in
    let hub = c.args.hub.now in
    let cs = c.args.changes.now in
    let es = c.edits.result.now in
    let u = hub_tree l.hub.parts in
    let v = hub_tree c.undo_all.new.hub.parts in
    let before = carried_trees l.parts.items in
    let after = carried_trees c.undo_all.new.parts.items in
    let within : l.at < length cs = omega (arith, c.loop-at-test.true) in
    let all = subst (λ (b : Bool). Stepping of l.hub.lenses b u (edit_trees es) before after v) c.if-not-branch.false c.in_ok-undo_all.ensures.words in
    let here = subst (λ ls. Stepping of ls true u (edit_trees es) before after v) l.invariant.same all in
    record {
      same = c.in_ok-undo_all.ensures.lenses ∙ l.invariant.same;
      steps = change_over of hub.lenses cs l.at c.index-changes-at.result es (hub_tree hub.parts) u v (carried_trees c.args.parts.now.items) before after
          within c.index-changes-at.is c.edits.ensures l.invariant.steps here;
    }

pub returns-then-not-branch-clause-words : goal.returns-then-not-branch-clause-words
returns-then-not-branch-clause-words g c =
    let l = c.loop-at in
    let of = g.L.EditLens in
    let hub = c.args.hub.now in
    let cs = c.args.changes.now in
    let es = c.edits.result.now in
    let u = hub_tree l.hub.parts in
    let v = hub_tree c.undo_all.new.hub.parts in
    let before = carried_trees l.parts.items in
    let after = carried_trees c.undo_all.new.parts.items in
    let within : l.at < length cs = omega (arith, c.loop-at-test.true) in
    let fails = subst (λ (b : Bool). Stepping of l.hub.lenses b u (edit_trees es) before after v) c.if-not-branch.true c.in_ok-undo_all.ensures.words in
    let here = subst (λ ls. Stepping of ls false u (edit_trees es) before after v) l.invariant.same fails in
    change_fails of hub.lenses cs l.at c.index-changes-at.result es (hub_tree hub.parts) u (carried_trees c.args.parts.now.items) before within c.index-changes-at.is c.edits.ensures l.invariant.steps here

pub returns-clause-words : goal.returns-clause-words
returns-clause-words g c =
    let l = c.loop-at in
    let hub = c.args.hub.now in
    let past : length c.args.changes.now ≤ l.at = omega (arith, c.loop-at-test.false) in
    changes_end g.L.EditLens hub.lenses c.args.changes.now l.at (hub_tree hub.parts) (hub_tree l.hub.parts) (carried_trees c.args.parts.now.items) (carried_trees l.parts.items) past l.invariant.steps
