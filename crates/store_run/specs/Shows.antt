-- What `show` and `verify` promise over the store of any kind of session: they only read it. Read it from the end:
-- `ShowsStore` and `Verifies`, then `ReadsStore`.
use Rattle.std.specs.Prelude.{◌≡◌, ◌⊎◌, ℕ, List, IsNone}
use Rattle.lens_io.specs.Calls.{SinkFailed, DiskFailed}
use Rattle.lens_io.specs.DiskRuns.{LeavesOnly}
use Rattle.lens_io.specs.declared.disk.Disk as OfDisk
use Rattle.lens_io.specs.declared.sink.Sink as OfSink
use Rattle.store_run.specs.CountLines.{consistent_line}
use Rattle.store_run.specs.Refusals.{IsUnwritten, RefusesStore}
use Rattle.store_run.specs.Stores.{Store, RefusedStore}
use Rattle.store_run.specs.ViewCall as call
use Rattle.store_run.specs.declared.session.StoredSession as OfSession
use Rattle.command_ends.specs.declared.status.Status.{Status}
use Rattle.command_ends.specs.declared.status.Status.TheVariants.{Done, DiskFault, NoMemory}

-- `IsInStep` says that a state is in step.
module _ {K D A : Type 0} (sink : OfSink.Ghosts K) (disk : OfDisk.Ghosts D) (session : OfSession.Ghosts A)
    (IsInStep : session.State → Type 0) (old new : K × D) (status : Status) where
  -- what is written of a state and its payloads is given by `text`
  pub record ReadsStore (text : session.State → List (List ℕ) → List ℕ) : Type 0 where
    -- over a store `show` has written its state lines, and `verify` the number of its changes; or the sink failed at
    -- them, or the disk failed or memory ran out before
    pub reports : (store : Store disk session old.1) → call.Views sink old.0 new.0 (text store.state store.payloads) status
    -- the state of the store is in step: a pair in its lens's consistency relation, or each view of a hub with the hub
    pub in_step : (store : Store disk session old.1) → IsInStep store.state
    -- over a store it comes to its end, or memory runs out, if no device fails
    pub completes : Store disk session old.1 → (SinkFailed sink old.0 new.0 → ⊥) → (DiskFailed disk old.1 new.1 → ⊥)
        → (status ≡ Done) ⊎ (status ≡ NoMemory)
    -- over bytes that are no store the line `store refused: REASON` was written, unless a device failed or memory ran
    -- out
    pub refuses : (other : RefusedStore disk session old.1) → RefusesStore sink disk old new status other.reason
    -- nothing is written to the disk
    pub unwritten : IsUnwritten disk old.1 new.1
    -- a crash leaves nothing new, at each moment of the call and at its end
    pub survives : LeavesOnly disk old.1 new.1 (disk.images old.1)
    -- a disk whose room is known never fails
    pub caused : status ≡ DiskFault → IsNone (disk.room old.1)

  -- `show` writes the state lines
  abbrev pub ShowsStore : Type 0
  ShowsStore = ReadsStore (λ state payloads. session.state_text state)

  -- `verify` writes how many of the payloads are of changes
  abbrev pub Verifies : Type 0
  Verifies = ReadsStore (λ state payloads. consistent_line (session.count_of payloads))
