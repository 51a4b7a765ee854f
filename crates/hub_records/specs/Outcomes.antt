-- What the calls return: what is wanted stands, or it is the fault that is returned.
use Rattle.std.specs.Prelude.{◌≡◌, Option, None, Result, Ok, Err}
use Rattle.store_records.specs.declared.record_fault.RecordFault.{RecordFault}
use Rattle.store_records.specs.declared.record_fault.RecordFault.TheVariants.{BadRecord, NotConsistent, NoMemory}
use Rattle.hub_records.specs.HubStands.{HubStanding}

-- the fault is the one that there is; running out of memory says nothing
abbrev pub IsStandFault : Result HubStanding RecordFault → RecordFault → Type 0
IsStandFault wanted (BadRecord number) = wanted ≡ Err (BadRecord number)
IsStandFault wanted (NotConsistent number) = wanted ≡ Err (NotConsistent number)
IsStandFault wanted NoMemory = Unit {0}

-- the first record is bad, if and only if there is nothing of it; running out of memory says nothing
abbrev pub IsFirstFault : {X : Type 0} → Option X → RecordFault → Type 0
IsFirstFault found (BadRecord number) = (number ≡ 1) × (found ≡ None)
IsFirstFault found (NotConsistent number) = ⊥
IsFirstFault found NoMemory = Unit {0}

-- what is wanted stands now, or is the fault that is returned
abbrev pub Reaches : {X : Type 0} → Result X RecordFault → Result HubStanding RecordFault → HubStanding → Type 0
Reaches (Ok x) wanted now = wanted ≡ Ok now
Reaches (Err fault) wanted now = IsStandFault wanted fault
