-- A log of sealed records, and the disk behind it. The main definitions are `sealed_log_of`, `HoldsSealed` and
-- `SealedStands`; they are for sealed records what `log_of`, `HoldsPayloads` and `Stands` are for plain ones.
use Rattle.std.specs.Prelude.{◌≡◌, ◌⊎◌, ℕ, ◌+◌, ◌-◌, ◌^◌, min, List, [], ◌∷◌, ◌++◌, length, Result, Ok, Err, IfSome, ⊤}
use Rattle.std.specs.declared.option.Option.{Option}
use Rattle.gate_log.specs.LogBytes.{LogContent, payloads, not_a_log, bad_record, log_of}
use Rattle.gate_log.specs.LogOnDisk.{LogState, HoldsPayloads, Stands}
use Rattle.gate_log.specs.CallEnds.{after_append}
use Rattle.gate_log.specs.declared.fault.LogFault.{LogFault}
use Rattle.gate_log.specs.declared.fault.LogFault.TheVariants.{NotALog, BadRecord, DiskFault, LogFull}
use Rattle.gate_log.specs.declared.fault.LogFault.TheVariants.{NoMemory}
use Rattle.sealed_log.specs.declared.lists.UnsealFault.{UnsealFault}
use Rattle.sealed_log.specs.declared.lists.UnsealFault.TheVariants as unsealing
use Rattle.sealed_log.specs.SealedRecords.{seal_of, sealed_record}
use Rattle.sealed_log.specs.SealedLists.{sealed, last_seal, unsealed}

-- ---- bytes

-- the log of the payloads of stored records, or of the first bad one
abbrev pub log_of_unsealed : Result (List (List ℕ)) ℕ → LogContent
log_of_unsealed (Ok held) = payloads held
log_of_unsealed (Err number) = bad_record number

-- the log with the payloads of its stored records
abbrev pub unsealed_log : LogContent → LogContent
unsealed_log (payloads stored) = log_of_unsealed (unsealed stored)
unsealed_log not_a_log = not_a_log
unsealed_log (bad_record number) = bad_record number

-- the log that the bytes hold, with the payloads of its records
abbrev pub sealed_log_of : List ℕ → LogContent
sealed_log_of bytes = unsealed_log (log_of bytes)

-- the bytes hold a log with the records that these payloads are sealed as
abbrev pub HoldsSealed : List (List ℕ) → List ℕ → Type 0
HoldsSealed held bytes = HoldsPayloads (sealed held) bytes

-- the bytes hold a log with these payloads sealed, with this one more or without it
abbrev pub HoldsSealedOneMore : List (List ℕ) → List ℕ → List ℕ → Type 0
HoldsSealedOneMore held payload bytes = HoldsSealed held bytes ⊎ HoldsSealed (held ++ payload ∷ []) bytes

-- ---- a log on a disk

-- a log as contracts see it: that of its stored records, and the seal of the last one
pub record SealedState : Type 0 where
  pub stored : LogState
  pub last : ℕ

-- The log can be used, and the disk is behind it with the records that exactly these payloads are sealed as. It goes on
-- from the last of them.
pub record SealedStands (content : Option (List ℕ)) (images : List ℕ → Type 0)
    (log : SealedState) (held : List (List ℕ)) : Type 0 where
  pub records : Stands content images log.stored (sealed held)
  pub goes_on : IfSome content (λ bytes. log.last ≡ last_seal held)

-- why the opening of this content fails
abbrev pub IsSealedRefusal : Option (List ℕ) → LogFault → Type 0
IsSealedRefusal content NotALog = IfSome content (λ bytes. sealed_log_of bytes ≡ not_a_log)
IsSealedRefusal content (BadRecord number) = IfSome content (λ bytes. sealed_log_of bytes ≡ bad_record number)
IsSealedRefusal content DiskFault = ⊤
IsSealedRefusal content NoMemory = ⊤
IsSealedRefusal content fault = ⊥

-- what a fault of stored records is for the log
abbrev pub log_fault_of : UnsealFault → LogFault
log_fault_of (unsealing.BadRecord number) = BadRecord number
log_fault_of unsealing.NoMemory = NoMemory

-- ---- an append

-- The number of the next record. No log has 2 ^ 64 records, so it is one more than there are.
abbrev pub next_number : SealedState → ℕ
next_number log = min (log.stored.count + 1) (2 ^ 64 - 1)

-- the record that this payload is stored as
abbrev pub next_record : SealedState → List ℕ → List ℕ
next_record log payload = sealed_record log.last (next_number log) payload

-- What is on the disk after an append to these payloads. `stands` says that the log stands there with other payloads.
abbrev pub SealedAppendEnds : (List (List ℕ) → Type 0) → (List ℕ → Type 0) → List (List ℕ) → List ℕ
    → Result (Unit {0}) LogFault → Type 0
SealedAppendEnds stands images held payload (Ok _) = stands (held ++ payload ∷ [])
SealedAppendEnds stands images held payload (Err LogFull) = stands held
SealedAppendEnds stands images held payload (Err NoMemory) = stands held
SealedAppendEnds stands images held payload (Err DiskFault) =
    (c : List ℕ) → images c → HoldsSealedOneMore held payload c
SealedAppendEnds stands images held payload (Err fault) = ⊥

-- what a crash at any moment of an append to these payloads leaves
abbrev pub SealedAppendLeaves : List (List ℕ) → List ℕ → Result (Unit {0}) LogFault → List ℕ → Type 0
SealedAppendLeaves held payload (Err LogFull) image = HoldsSealed held image
SealedAppendLeaves held payload (Err NoMemory) image = HoldsSealed held image
SealedAppendLeaves held payload result image = HoldsSealedOneMore held payload image

-- the log after an append
abbrev pub after_sealed_append : SealedState → List ℕ → Result (Unit {0}) LogFault → SealedState
after_sealed_append log payload (Ok it) = record {
  stored = after_append {T = Unit {0}} log.stored (length (next_record log payload)) (Ok it);
  last = seal_of log.last (next_number log) payload;
}
after_sealed_append log payload (Err fault) = record log {
  stored = after_append {T = Unit {0}} log.stored (length (next_record log payload)) (Err fault);
}
