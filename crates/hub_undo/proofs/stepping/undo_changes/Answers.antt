use Rattle.std.proofs.Common.{◌≡◌, List, [], ◌++◌, Bool, Some, length, sym, ap, subst, ◌∙◌}
use Rattle.view_hub.specs.Hubs.{CarriedTree}
use Rattle.view_hub.specs.Views.{hub_carried_tree, hub_tree}
use Rattle.view_hub.specs.declared.side.HubCarried.{HubCarried}
use Rattle.hub_undo.specs.HubUndone.{HubBringsBack}
use Rattle.hub_undo.specs.HubUndoing.{edits_of_all}
use Rattle.hub_undo.specs.UndoMaking.{change_trees}
use Rattle.hub_undo.specs.UndoSteps.{HasViews, Stepping, joined_all}
use Rattle.hub_undo.specs.UndoViews.{carried_trees}
use Rattle.hub_undo.proofs.Steps.{all_back, all_fail, all_over}
use Rattle.hub_undo.proofs.stepping.undo_changes.Goals as goal

pub returns-then-not-branch-clause-undone : goal.returns-then-not-branch-clause-undone
returns-then-not-branch-clause-undone g c =
    let of = g.L.EditLens in
    let hub = c.args.hub.now in
    let es = edits_of_all (change_trees c.args.changes.now) in
    let h = hub_tree hub.parts in
    let k = hub_tree c.undo_each.new.hub.parts in
    all_fail of hub.lenses h es
    (subst (λ (b : Bool). Stepping of hub.lenses b h es (carried_trees c.new-parts.result.items) (carried_trees c.undo_each.new.parts.items) k) c.if-not-branch.true c.in_ok-undo_each.ensures.words)

pub join_all-requires : goal.join_all-requires
join_all-requires g c =
    let of = g.L.EditLens in
    let hub = c.args.hub.now in
    let es = edits_of_all (change_trees c.args.changes.now) in
    let h = hub_tree hub.parts in
    let k = hub_tree c.undo_each.new.hub.parts in
    let all = subst (λ (b : Bool). Stepping of hub.lenses b h es (carried_trees c.new-parts.result.items) (carried_trees c.undo_each.new.parts.items) k) c.if-not-branch.false c.in_ok-undo_each.ensures.words in
    let none : carried_trees c.new-parts.result.items ≡ [] = ap (λ (cs : List HubCarried). carried_trees cs) c.new-parts.ensures.items in
    let parts : carried_trees c.undo_each.new.parts.items ≡ all.0 = all.1 ∙ ap (λ (cs : List CarriedTree). cs ++ all.0) none in
    let lenses = c.lenses.ensures.lenses ∙ c.in_ok-undo_each.ensures.lenses in
    record { views = subst (λ ls. HasViews (length ls) (carried_trees c.undo_each.new.parts.items)) (sym lenses) (subst (HasViews (length hub.lenses)) (sym parts) all.2.views) }

pub returns-clause-undone : goal.returns-clause-undone
returns-clause-undone g c =
    let of = g.L.EditLens in
    let hub = c.args.hub.now in
    let es = edits_of_all (change_trees c.args.changes.now) in
    let h = hub_tree hub.parts in
    let k = hub_tree c.undo_each.new.hub.parts in
    let all = subst (λ (b : Bool). Stepping of hub.lenses b h es (carried_trees c.new-parts.result.items) (carried_trees c.undo_each.new.parts.items) k) c.if-not-branch.false c.in_ok-undo_each.ensures.words in
    let none : carried_trees c.new-parts.result.items ≡ [] = ap (λ (cs : List HubCarried). carried_trees cs) c.new-parts.ensures.items in
    let parts : carried_trees c.undo_each.new.parts.items ≡ all.0 = all.1 ∙ ap (λ (cs : List CarriedTree). cs ++ all.0) none in
    let lenses = c.lenses.ensures.lenses ∙ c.in_ok-undo_each.ensures.lenses in
    let words : hub_carried_tree c.in_ok-words.words ≡ joined_all (length hub.lenses) all.0 =
    c.in_ok-words.ensures ∙ ap (λ ls. joined_all (length ls) (carried_trees c.undo_each.new.parts.items)) lenses ∙ ap (joined_all (length hub.lenses)) parts in
    ap (λ (w : CarriedTree). Some (k, w)) words ∙ all_over of hub.lenses h es all.0 k all.2

pub returns-clause-brings_back : goal.returns-clause-brings_back
returns-clause-brings_back g c =
    let of = g.L.EditLens in
    let hub = c.args.hub.now in
    let es = edits_of_all (change_trees c.args.changes.now) in
    let h = hub_tree hub.parts in
    let k = hub_tree c.undo_each.new.hub.parts in
    let all = subst (λ (b : Bool). Stepping of hub.lenses b h es (carried_trees c.new-parts.result.items) (carried_trees c.undo_each.new.parts.items) k) c.if-not-branch.false c.in_ok-undo_each.ensures.words in
    let none : carried_trees c.new-parts.result.items ≡ [] = ap (λ (cs : List HubCarried). carried_trees cs) c.new-parts.ensures.items in
    let parts : carried_trees c.undo_each.new.parts.items ≡ all.0 = all.1 ∙ ap (λ (cs : List CarriedTree). cs ++ all.0) none in
    let lenses = c.lenses.ensures.lenses ∙ c.in_ok-undo_each.ensures.lenses in
    let words : hub_carried_tree c.in_ok-words.words ≡ joined_all (length hub.lenses) all.0 =
    c.in_ok-words.ensures ∙ ap (λ ls. joined_all (length ls) (carried_trees c.undo_each.new.parts.items)) lenses ∙ ap (joined_all (length hub.lenses)) parts in
    subst (λ (w : CarriedTree). HubBringsBack of hub.lenses w k h) (sym words) (all_back of hub.lenses h es all.0 k c.hub-hub.ensures.in_step all.2)
