use Rattle.std.proofs.Common.{◌≡◌, drop}
use Rattle.serde_json.specs.View.{items_view}
use Rattle.view_hub.specs.Views.{view_trees}
use Rattle.hub_run.specs.RunStates.{forms_of_lenses}
use Rattle.hub_records.specs.HubStands.{views_of}
use Rattle.hub_records.proofs.SnapshotViews.{remaining}
use Rattle.hub_records.proofs.snapshots.read_views.Given as goal

-- the views so far, and those of what is left, are those of all
abbrev pub invariant-loop-place : goal.invariant-loop-place
invariant-loop-place l =
    remaining (view_trees l.views.items) (drop l.place l.lenses) (drop l.place l.trees) ≡ views_of (forms_of_lenses l.lenses) (items_view l.trees)
