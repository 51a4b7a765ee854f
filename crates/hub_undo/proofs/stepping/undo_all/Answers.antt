use Rattle.std.proofs.Common.{◌<◌, ◌≤◌, Option, Some, None, length, refl, subst, ◌∙◌, arith}
use Rattle.std.specs.Prelude.{option_map}
use Rattle.view_hub.specs.Views.{hub_carried_tree, edit_tree, hub_tree}
use Rattle.view_hub.specs.declared.side.HubCarried.{HubCarried}
use Rattle.hub_undo.specs.UndoSteps.{UndoesEdit}
use Rattle.hub_undo.specs.UndoViews.{carried_trees}
use Rattle.hub_undo.proofs.Steps.{stepping_none, edit_over, edit_fails, edits_end}
use Rattle.hub_undo.proofs.stepping.undo_all.Goals as goal

pub loop-at-init : goal.loop-at-init
loop-at-init g c =
    let hub = c.args.hub.now in
    record { same = refl; steps = stepping_none g.L.EditLens hub.lenses (hub_tree hub.parts) (carried_trees c.args.parts.now.items) }

pub loop-at-preserved : goal.loop-at-preserved
loop-at-preserved g c =
    let l = c.loop-at in
    let of = g.L.EditLens in
    let hub = c.args.hub.now in
    let es = c.args.edits.now in
    let e = c.index-edits-at.result in
    let u = hub_tree l.hub.parts in
    let v = hub_tree c.undo_edit.new.hub.parts in
    let within : l.at < length es = omega (arith, c.loop-at-test.true) in
    let some = subst (λ (o : Option HubCarried). UndoesEdit of l.hub.lenses u (edit_tree e) v (option_map hub_carried_tree o)) c.in-Some.is c.in_ok-words.ensures.words in
    let here = subst (λ ls. UndoesEdit of ls u (edit_tree e) v (option_map hub_carried_tree (Some c.in-Some.words))) l.invariant.same some in
    record {
      same = c.in_ok-words.ensures.lenses ∙ l.invariant.same;
      steps = edit_over of hub.lenses es l.at e (hub_tree hub.parts) u v (carried_trees c.args.parts.now.items) l.parts.items c.push.new.self.items c.in-Some.words
          within c.index-edits-at.is l.invariant.steps here c.in_ok-push.ensures.items;
    }

pub returns-in_default-clause-words : goal.returns-in_default-clause-words
returns-in_default-clause-words g c =
    let l = c.loop-at in
    let of = g.L.EditLens in
    let hub = c.args.hub.now in
    let es = c.args.edits.now in
    let e = c.index-edits-at.result in
    let u = hub_tree l.hub.parts in
    let v = hub_tree c.undo_edit.new.hub.parts in
    let within : l.at < length es = omega (arith, c.loop-at-test.true) in
    let none = subst (λ (o : Option HubCarried). UndoesEdit of l.hub.lenses u (edit_tree e) v (option_map hub_carried_tree o)) c.in_default.is c.in_ok-words.ensures.words in
    let here = subst (λ ls. UndoesEdit of ls u (edit_tree e) v None) l.invariant.same none in
    edit_fails of hub.lenses es l.at e (hub_tree hub.parts) u (carried_trees c.args.parts.now.items) (carried_trees l.parts.items) here.0 within c.index-edits-at.is l.invariant.steps here.1

pub returns-clause-words : goal.returns-clause-words
returns-clause-words g c =
    let l = c.loop-at in
    let hub = c.args.hub.now in
    let past : length c.args.edits.now ≤ l.at = omega (arith, c.loop-at-test.false) in
    edits_end g.L.EditLens hub.lenses c.args.edits.now l.at (hub_tree hub.parts) (hub_tree l.hub.parts) (carried_trees c.args.parts.now.items) (carried_trees l.parts.items) past l.invariant.steps
