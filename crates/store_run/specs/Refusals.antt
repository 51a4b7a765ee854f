-- Why a store is refused, the line that says so, and how a command ends with it.
-- Read it from the end: `refusal_in`, `RefusesStore`, `EndsRefused`, `WritesRefusal`, then `refusal_line`.
use Rattle.std.specs.Prelude.{◌≡◌, ◌⊎◌, ℕ, List, [], ◌++◌, codes, decimal, Option, Some, None, IsNone, Result, Ok, Err}
use Rattle.lens_io.specs.Calls.{Gave, GaveFront}
use Rattle.lens_io.specs.DiskRuns.{LeavesOnly}
use Rattle.lens_io.specs.declared.sink.Sink as OfSink
use Rattle.lens_io.specs.declared.disk.Disk as OfDisk
use Rattle.gate_log.specs.LogBytes.{LogContent, payloads, not_a_log, bad_record, log_of}
use Rattle.gate_log.specs.declared.fault.LogFault.{LogFault}
use Rattle.gate_log.specs.declared.fault.LogFault.TheVariants as log
use Rattle.store_run.specs.declared.refusals.StoreRefusal.{StoreRefusal}
use Rattle.store_run.specs.declared.refusals.StoreRefusal.TheVariants.{NotALog, LogExists, LogFull, BadRecord}
use Rattle.store_run.specs.declared.refusals.StoreRefusal.TheVariants.{NotConsistent, NothingToUndo}
use Rattle.store_run.specs.declared.session.ReopenFault.{ReopenFault}
use Rattle.store_run.specs.declared.session.ReopenFault.TheVariants as reopening
use Rattle.store_run.specs.declared.session.StoredSession as OfSession
use Rattle.command_ends.specs.declared.status.Status.{Status}
use Rattle.command_ends.specs.declared.status.Status.TheVariants as ending

-- ---- the line

-- the words of a refusal; records are numbered from 1
abbrev pub refusal_text : StoreRefusal → List ℕ
refusal_text NotALog = codes "not-a-log"
refusal_text LogExists = codes "log-exists"
refusal_text LogFull = codes "log-full"
refusal_text (BadRecord number) = codes "bad-record " ++ decimal number
refusal_text (NotConsistent number) = codes "not-consistent " ++ decimal number
refusal_text NothingToUndo = codes "nothing-to-undo"

-- `store refused: REASON`
abbrev pub refusal_line : StoreRefusal → List ℕ
refusal_line refusal = codes "store refused: " ++ refusal_text refusal ++ codes "\n"

-- ---- the end of the command

module _ {K : Type 0} (sink : OfSink.Ghosts K) (old new : K) where
  -- The line was written. Or the sink failed at it, or memory ran out before it.
  abbrev pub WritesRefusal : StoreRefusal → Status → Type 0
  WritesRefusal refusal status =
      (status ≡ ending.StoreRefused) × Gave sink old new (refusal_line refusal)
      ⊎ (status ≡ ending.SinkFault) × GaveFront sink old new (refusal_line refusal)
      ⊎ (status ≡ ending.NoMemory) × Gave sink old new []

  -- the disk failed, or memory ran out, and nothing was written
  abbrev pub FailsEarly : Status → Type 0
  FailsEarly status = ((status ≡ ending.DiskFault) ⊎ (status ≡ ending.NoMemory)) × Gave sink old new []

-- ---- before a store is opened

module _ {D : Type 0} (disk : OfDisk.Ghosts D) (old new : D) where
  -- nothing is written, not even an empty piece: a read of the disk gives what it gave before, and a crash leaves
  -- nothing new
  pub record IsUnwritten : Type 0 where
    pub same : disk.content new ≡ disk.content old
    pub only : (c : List ℕ) → disk.images new c → disk.images old c
    pub no_write : disk.writes new ≡ disk.writes old

  -- what opening a store and reading its payloads does to the disk: nothing is written, and no crash on the way
  -- leaves anything new
  pub record IsOpening : Type 0 where
    pub unwritten : IsUnwritten
    pub moments : LeavesOnly disk old new (disk.images old)
    pub same_room : disk.room new ≡ disk.room old

module _ {K D : Type 0} (sink : OfSink.Ghosts K) (disk : OfDisk.Ghosts D) (old new : K × D) where
  -- the disk failed, or memory ran out, and nothing was written; the disk failed only if its room is not known
  abbrev pub FailsUnopened : Status → Type 0
  FailsUnopened status = FailsEarly sink old.0 new.0 status × (status ≡ ending.DiskFault → IsNone (disk.room old.1))

  -- the end over bytes that are refused for this reason, unless the command failed before it was known
  abbrev pub EndsRefused : StoreRefusal → Status → Type 0
  EndsRefused refusal status = WritesRefusal sink old.0 new.0 refusal status ⊎ FailsUnopened status

  -- The same, and nothing was written to the disk: the line `store refused: REASON` was written in place of all else.
  -- Only a disk whose room is not known may fail before, and memory may run out.
  abbrev pub RefusesStore : Status → StoreRefusal → Type 0
  RefusesStore status refusal = IsUnwritten disk old.1 new.1 × EndsRefused refusal status

-- ---- the bytes of a disk

-- why payloads are refused, if they are
abbrev pub refusal_of_payloads : {T : Type 0} → Result T ReopenFault → Option StoreRefusal
refusal_of_payloads (Ok value) = None
refusal_of_payloads (Err (reopening.BadRecord number)) = Some (BadRecord number)
refusal_of_payloads (Err (reopening.NotConsistent number)) = Some (NotConsistent number)
refusal_of_payloads (Err reopening.NoMemory) = None

module _ {A : Type 0} (session : OfSession.Ghosts A) where
  -- why a log is refused, if it is
  abbrev pub refusal_of_log : LogContent → Option StoreRefusal
  refusal_of_log (payloads held) = refusal_of_payloads (session.stands_for held)
  refusal_of_log not_a_log = Some NotALog
  refusal_of_log (bad_record number) = Some (BadRecord number)

  -- why these bytes are refused as a store, if they are
  abbrev pub refusal_in : List ℕ → Option StoreRefusal
  refusal_in bytes = refusal_of_log (log_of bytes)
