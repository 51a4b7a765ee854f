use Rattle.std.proofs.Common.{◌≡◌, take}
use Rattle.view_hub.specs.Views.{view_trees}
use Rattle.view_hub.proofs.view.copy_parts.Given as goal

abbrev pub invariant-loop-view : goal.invariant-loop-view
invariant-loop-view l = view_trees l.views.items ≡ view_trees (take l.view-index l.view-items)
