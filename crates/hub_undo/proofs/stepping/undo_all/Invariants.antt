use Rattle.std.proofs.Common.{◌≡◌, take, true}
use Rattle.view_hub.specs.Views.{edit_trees, hub_tree}
use Rattle.hub_undo.specs.UndoSteps.{Stepping}
use Rattle.hub_undo.specs.UndoViews.{carried_trees}
use Rattle.hub_undo.proofs.stepping.undo_all.Given as goal

-- the first edits are stepped over
abbrev pub invariant-loop-at : goal.invariant-loop-at
invariant-loop-at g l = record {
  same : l.hub.lenses ≡ l.fn.hub.lenses;
  steps : Stepping g.L.EditLens l.fn.hub.lenses true (hub_tree l.fn.hub.parts) (edit_trees (take l.at l.edits)) (carried_trees l.fn.parts.items) (carried_trees l.parts.items) (hub_tree l.hub.parts);
}
