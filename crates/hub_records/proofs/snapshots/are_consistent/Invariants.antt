use Rattle.std.proofs.Common.{◌≡◌, drop}
use Rattle.view_hub.specs.Views.{hub_tree}
use Rattle.hub_records.proofs.SnapshotViews.{tested}
use Rattle.hub_records.proofs.snapshots.are_consistent.Given as goal

-- the answer is that of the views that are left
abbrev pub invariant-loop-place : goal.invariant-loop-place
invariant-loop-place l =
    let x = (hub_tree l.parts).hub in
    tested x (drop l.place l.lenses) (drop l.place l.parts.views.items) ≡ tested x l.lenses l.parts.views.items
