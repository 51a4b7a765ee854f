use Rattle.std.proofs.Common.{◌≡◌, drop, length}
use Rattle.serde_json.specs.View.{items_view}
use Rattle.hub_run.specs.RunStates.{forms_of_lenses}
use Rattle.hub_records.specs.HubLenses.{forms_behind, forms_of_items}
use Rattle.hub_records.specs.OneLeftType.{HasOneLeft}
use Rattle.hub_records.proofs.lenses.lenses_of_items.Given as goal

-- behind the lenses so far, the programs that are left give what all programs give
abbrev pub invariant-loop-item : goal.invariant-loop-item
invariant-loop-item l = record {
  goes : forms_behind (forms_of_lenses l.lenses.items) (items_view (drop l.item-index l.items)) ≡ forms_of_items (items_view l.items);
  one_left : HasOneLeft l.lenses.items;
  count : length l.lenses.items ≡ l.item-index;
}
