use Rattle.std.proofs.Common.{arith}
use Rattle.view_hub.specs.Views.{hub_carried_tree}
use Rattle.hub_undo.specs.UndoSteps.{joined_all}
use Rattle.hub_undo.specs.UndoViews.{carried_trees}
use Rattle.hub_undo.proofs.Joins.{joining_none, joining_last, joining_end, last_views}
use Rattle.hub_undo.proofs.joining.join_all.Goals as goal

pub parts-init : goal.parts-init
parts-init c = joining_none c.args.views (hub_carried_tree c.in_ok-all.all) (carried_trees c.args.parts.items) c.in_ok-all.ensures c.requires.views

pub join-requires : goal.join-requires
join-requires c =
    let l = c.parts in
    record { views = last_views c.args.views l.all c.in-Some.part c.pop.new.self.items l.parts.items (joined_all c.args.views (carried_trees c.args.parts.items)) c.in-Some.ensures.items l.invariant }

pub parts-preserved : goal.parts-preserved
parts-preserved c =
    let l = c.parts in
    joining_last c.args.views (hub_carried_tree l.all) (hub_carried_tree c.in_ok-longer.longer) (joined_all c.args.views (carried_trees c.args.parts.items)) c.pop.new.self.items l.parts.items c.in-Some.part
    c.in-Some.ensures.items c.in_ok-longer.ensures l.invariant

pub returns : goal.returns
returns c =
    let l = c.parts in
    joining_end c.args.views (hub_carried_tree l.all) (joined_all c.args.views (carried_trees c.args.parts.items)) l.parts.items (omega (arith, c.in_default.ensures.cases.0)) l.invariant
