use Rattle.std.proofs.Common.{◌≡◌, true, drop, map, take}
use Rattle.serde_json.specs.View.{view}
use Rattle.view_hub.specs.Views.{view_trees}
use Rattle.hub_records.specs.WholeInts.{views_hold_i64s}
use Rattle.hub_records.proofs.SavedViews.{in_front_of, view_items}
use Rattle.hub_records.proofs.saving.views_record.Given as goal

-- the trees so far, and those of the views that are left, are those of all
abbrev pub invariant-loop-place : goal.invariant-loop-place
invariant-loop-place l = record {
  trees : in_front_of (map view l.items.items) (view_items (drop l.place l.lenses) (drop l.place l.parts.views.items)) ≡ view_items l.lenses l.parts.views.items;
  ints : views_hold_i64s (view_trees (take l.place l.parts.views.items)) ≡ true;
}
