-- What a refusal of the first record says.
use Rattle.std.specs.Prelude.{◌≡◌, Option, None}
use Rattle.store_records.specs.declared.record_fault.RecordFault.{RecordFault}
use Rattle.store_records.specs.declared.record_fault.RecordFault.TheVariants.{BadRecord, NotConsistent, NoMemory}

-- the first record is bad, if and only if there is nothing of it; running out of memory says nothing
abbrev pub IsBadFirst : {X : Type 0} → Option X → RecordFault → Type 0
IsBadFirst o (BadRecord number) = (number ≡ 1) × (o ≡ None)
IsBadFirst o (NotConsistent number) = ⊥
IsBadFirst o NoMemory = Unit {0}
