-- What the opening of a store comes to. Read it from the end: `EndsUnopened` is of a command whose store was not
-- opened, `IsOpened`, `FailsToOpen` and `IsRefusedFor` are of the session, `IsReadLog` and `IsUnreadFor` of the log.
use Rattle.std.specs.Prelude.{◌≡◌, ℕ, List, []}
use Rattle.command_ends.specs.declared.status.Status.{Status}
use Rattle.command_ends.specs.declared.status.Status.TheVariants as ending
use Rattle.lens_io.specs.Calls.{Gave}
use Rattle.lens_io.specs.declared.disk.Disk as OfDisk
use Rattle.lens_io.specs.declared.sink.Sink as OfSink
use Rattle.gate_log.specs.LogBytes.{not_a_log, bad_record, log_of}
use Rattle.gate_log.specs.LogOnDisk.{LogState, HoldsPayloads}
use Rattle.gate_log.specs.declared.fault.LogFault.{LogFault}
use Rattle.gate_log.specs.declared.fault.LogFault.TheVariants as log
use Rattle.store_run.specs.Effects.{StandsOn}
use Rattle.store_run.specs.Refusals.{WritesRefusal}
use Rattle.store_run.specs.Stores.{Store}
use Rattle.store_run.specs.declared.opening.OpenFault.{OpenFault}
use Rattle.store_run.specs.declared.opening.OpenFault.TheVariants.{Refused, DiskFault, NoMemory}
use Rattle.store_run.specs.declared.opening.OpenedStore.{OpenedStore}
use Rattle.store_run.specs.declared.refusals.StoreRefusal.{StoreRefusal}
use Rattle.store_run.specs.declared.refusals.StoreRefusal.TheVariants.{NotALog, LogExists, LogFull, BadRecord}
use Rattle.store_run.specs.declared.refusals.StoreRefusal.TheVariants.{NotConsistent}
use Rattle.store_run.specs.declared.session.ReopenFault.{ReopenFault}
use Rattle.store_run.specs.declared.session.ReopenFault.TheVariants as reopening
use Rattle.store_run.specs.declared.session.StoredSession as OfSession

-- ---- faults

abbrev pub fault_of_log : LogFault → OpenFault
fault_of_log log.NotALog = Refused NotALog
fault_of_log (log.BadRecord number) = Refused (BadRecord number)
fault_of_log log.LogExists = Refused LogExists
fault_of_log log.LogFull = Refused LogFull
fault_of_log log.DiskFault = DiskFault
fault_of_log log.NoMemory = NoMemory

abbrev pub fault_of_payloads : ReopenFault → OpenFault
fault_of_payloads (reopening.BadRecord number) = Refused (BadRecord number)
fault_of_payloads (reopening.NotConsistent number) = Refused (NotConsistent number)
fault_of_payloads reopening.NoMemory = NoMemory

-- ---- a log that is read

-- each image that a crash now may leave holds these payloads
abbrev pub ImagesHold : {D : Type 0} → OfDisk.Ghosts D → D → List (List ℕ) → Type 0
ImagesHold disk d payloads = (image : List ℕ) → disk.images d image → HoldsPayloads payloads image

-- the bytes are a log of the payloads that were read, and it stands on the disk
pub record IsReadLog {D : Type 0} (disk : OfDisk.Ghosts D) (new : D) (bytes : List ℕ) (log : LogState)
    (payloads : List (List ℕ)) : Type 0 where
  pub holds : HoldsPayloads payloads bytes
  pub stands : StandsOn disk new log payloads

-- why a log of these bytes was not read
abbrev pub IsUnreadFor : List ℕ → OpenFault → Type 0
IsUnreadFor bytes (Refused NotALog) = log_of bytes ≡ not_a_log
IsUnreadFor bytes (Refused (BadRecord number)) = log_of bytes ≡ bad_record number
IsUnreadFor bytes (Refused refusal) = ⊥
IsUnreadFor bytes DiskFault = Unit {0}
IsUnreadFor bytes NoMemory = Unit {0}

-- ---- a session that is opened

module _ {D A : Type 0} (disk : OfDisk.Ghosts D) (session : OfSession.Ghosts A) (old new : D)
    (store : Store disk session old) where
  -- The session, the version record and the count of changes are those of the store, whose log stands on the disk.
  pub record IsOpened (made : OpenedStore A) : Type 0 where
    pub stands : StandsOn disk new made.log store.payloads
    pub state_is : session.state made.session ≡ store.state
    pub version_is : made.version ≡ store.version
    pub counted : made.count ≡ session.count_of store.payloads

-- a store is not refused
abbrev pub FailsToOpen : OpenFault → Type 0
FailsToOpen (Refused refusal) = ⊥
FailsToOpen DiskFault = Unit {0}
FailsToOpen NoMemory = Unit {0}

-- bytes that are refused as a store are refused for their reason
abbrev pub IsRefusedFor : StoreRefusal → OpenFault → Type 0
IsRefusedFor reason (Refused refusal) = refusal ≡ reason
IsRefusedFor reason DiskFault = Unit {0}
IsRefusedFor reason NoMemory = Unit {0}

-- ---- the end of a command whose store was not opened

abbrev pub EndsUnopened : {K : Type 0} → OfSink.Ghosts K → K → K → OpenFault → Status → Type 0
EndsUnopened sink old new (Refused refusal) status = WritesRefusal sink old new refusal status
EndsUnopened sink old new DiskFault status = (status ≡ ending.DiskFault) × Gave sink old new []
EndsUnopened sink old new NoMemory status = (status ≡ ending.NoMemory) × Gave sink old new []
