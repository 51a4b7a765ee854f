use Rattle.std.proofs.Common.{◌≡◌, map, take}
use Rattle.view_hub.specs.Hubs.{first_view}
use Rattle.view_hub.specs.Views.{view_trees}
use Rattle.view_hub.proofs.lower.first_views.Given as goal

abbrev pub invariant-loop-lens : goal.invariant-loop-lens
invariant-loop-lens g l =
    view_trees l.views.items ≡ map (first_view g.L.EditLens) (take l.lens-index l.lenses)
