use Rattle.std.proofs.Common.{length}
use Rattle.view_hub.specs.Views.{hub_carried_tree}
use Rattle.hub_undo.specs.UndoSteps.{joined_all}
use Rattle.hub_undo.specs.UndoViews.{carried_trees}
use Rattle.hub_undo.proofs.Joins.{Joining}
use Rattle.hub_undo.proofs.joining.join_all.Given as goal

abbrev pub decreases-parts : goal.decreases-parts
decreases-parts l = length l.parts.items

-- behind what is joined come the parts that are left
abbrev pub invariant-parts : goal.invariant-parts
invariant-parts l = Joining l.views (hub_carried_tree l.all) (carried_trees l.parts.items) (joined_all l.views (carried_trees l.fn.parts.items))
