-- No store of a hub is refused since memory ran out.
use Rattle.std.proofs.Common.{◌≡◌, List, ℕ, Result, Ok, Err, refl}
use Rattle.store_records.specs.declared.record_fault.RecordFault.{RecordFault}
use Rattle.store_records.specs.declared.record_fault.RecordFault.TheVariants as of_records
use Rattle.store_run.specs.declared.session.ReopenFault.TheVariants as reopening
use Rattle.hub_records.specs.HubStands.{HubStanding, stands_as_hub}
use Rattle.hub_records.proofs.StandsKnown.{stands_known}
use Rattle.hub_session.specs.HubStates.{hub_opened_as, hub_stands_for}

pub known : (held : List (List ℕ)) → hub_stands_for held ≡ Err reopening.NoMemory → ⊥
known held = by_standing (stands_as_hub held) refl where
  by_standing : (r : Result HubStanding RecordFault) → stands_as_hub held ≡ r → hub_opened_as r ≡ Err reopening.NoMemory → ⊥
  by_standing (Ok s) is h = cc
  by_standing (Err (of_records.BadRecord n)) is h = cc
  by_standing (Err (of_records.NotConsistent n)) is h = cc
  by_standing (Err of_records.NoMemory) is h = stands_known held is
