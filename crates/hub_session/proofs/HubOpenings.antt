-- Why the store of a hub is refused, in the words of the stores.
use Rattle.std.proofs.Common.{◌≡◌, ℕ, List, sym, ap, subst}
use Rattle.store_records.specs.declared.record_fault.RecordFault.{RecordFault}
use Rattle.store_records.specs.declared.record_fault.RecordFault.TheVariants as of_records
use Rattle.store_session.specs.StoredStates.{fault_of}
use Rattle.store_run.specs.Reopening.{IsReopenFault}
use Rattle.store_run.specs.declared.session.ReopenFault.{ReopenFault}
use Rattle.hub_records.specs.HubStands as hubs
use Rattle.hub_records.specs.Outcomes.{IsStandFault}
use Rattle.hub_session.specs.HubStates.{hub_opened_as, hub_stands_for}

-- the fault of the records is that of the store
pub fault_opens : (ps : List (List ℕ)) (fault : RecordFault) (x : ReopenFault) → IsStandFault (hubs.stands_as_hub ps) fault → x ≡ fault_of fault → IsReopenFault (hub_stands_for ps) x
fault_opens ps (of_records.BadRecord number) x h e = subst (IsReopenFault (hub_stands_for ps)) (sym e) (ap hub_opened_as h)
fault_opens ps (of_records.NotConsistent number) x h e = subst (IsReopenFault (hub_stands_for ps)) (sym e) (ap hub_opened_as h)
fault_opens ps of_records.NoMemory x h e = subst (IsReopenFault (hub_stands_for ps)) (sym e) tt
