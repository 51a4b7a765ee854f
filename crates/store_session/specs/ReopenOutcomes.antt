-- What the calls return: what is wanted stands, or it is the fault that is returned.
use Rattle.std.specs.Prelude.{◌≡◌, Result, Ok, Err}
use Rattle.store_records.specs.declared.record_fault.RecordFault.{RecordFault}
use Rattle.store_records.specs.declared.record_fault.RecordFault.TheVariants.{BadRecord, NotConsistent, NoMemory}
use Rattle.store_session.specs.Stands.{Standing}

-- the fault is the one that there is; running out of memory says nothing
abbrev pub IsReopenFault : Result Standing RecordFault → RecordFault → Type 0
IsReopenFault wanted (BadRecord number) = wanted ≡ Err (BadRecord number)
IsReopenFault wanted (NotConsistent number) = wanted ≡ Err (NotConsistent number)
IsReopenFault wanted NoMemory = Unit {0}

-- what is wanted stands now, or is the fault that is returned
abbrev pub Reaches : {X : Type 0} → Result X RecordFault → Result Standing RecordFault → Standing → Type 0
Reaches (Ok x) wanted now = wanted ≡ Ok now
Reaches (Err fault) wanted now = IsReopenFault wanted fault
