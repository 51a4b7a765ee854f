use Rattle.std.proofs.Common.{◌≡◌, ◌≤◌, Ok, take}
use Rattle.hub_records.specs.HubStands.{stands_as_hub}
use Rattle.hub_records.specs.Views.{hub_standing}
use Rattle.hub_records.proofs.reopening.take_records.Given as goal

-- the hub is that of the payloads before this place
abbrev pub invariant-loop-at : goal.invariant-loop-at
invariant-loop-at l = record {
  count : l.opened.count ≤ l.at;
  stood : stands_as_hub (take l.at l.records) ≡ Ok (hub_standing l.opened.hub l.opened.count);
}
