-- What `pack` promises over the store of any kind of session. Read it from the end: `Packs`, then `KeepsState`.
use Rattle.command_ends.specs.Statuses.{IsFinished}
use Rattle.std.specs.Prelude.{◌≡◌, ◌⊎◌}
use Rattle.lens_io.specs.Calls.{SinkFailed, DiskFailed}
use Rattle.lens_io.specs.declared.disk.Disk as OfDisk
use Rattle.lens_io.specs.declared.sink.Sink as OfSink
use Rattle.store_run.specs.MoreCall.{IsUntouched}
use Rattle.store_run.specs.PackCall.{PacksCall, IsSafePack, EndsPack}
use Rattle.store_run.specs.Rooms.{most_bytes, PackHasNoRoom, IsPackCause}
use Rattle.store_run.specs.Refusals.{RefusesStore}
use Rattle.store_run.specs.Stores.{Store, RefusedStore}
use Rattle.store_run.specs.declared.session.StoredSession as OfSession
use Rattle.command_ends.specs.declared.status.Status.{Status}
use Rattle.command_ends.specs.declared.status.Status.TheVariants.{Done, DiskFault, NoMemory}

-- `IsInStep` says that a state is in step, and `IsUncalled` that the call ended before any device was called.
module _ {K D A : Type 0} (sink : OfSink.Ghosts K) (disk : OfDisk.Ghosts D) (session : OfSession.Ghosts A)
    (IsInStep : session.State → Type 0) (IsUncalled : Type 0) (old new : K × D) (status : Status) where
  -- the store was not opened: the disk failed, and nothing has changed; or no device was called
  abbrev pub UnopenedPack : Type 0
  UnopenedPack = (status ≡ DiskFault) × IsUntouched sink disk old new ⊎ IsUncalled

  -- over a store
  pub record KeepsState (store : Store disk session old.1) : Type 0 where
    -- at its end a snapshot is stored, and the store represents the same state with the same number of changes
    pub continues : IsFinished status → PacksCall sink disk session old.0 new store.payloads store.state store.version
    -- the state of the store is in step: a pair in its lens's consistency relation, or each view of a hub with the hub
    pub in_step : IsInStep store.state
    -- what was written and stored at every status
    pub stops : EndsPack sink disk session old new store.payloads store.state store.version status
    -- an image of a crash, at each moment of the call and at its end, was possible before the call, or represents the
    -- same state
    pub survives : UnopenedPack
        ⊎ IsSafePack disk session old.1 new.1 (disk.images old.1) store.payloads store.state store.version
    -- after StoreRefused the log had no room for what was to be stored, and after DiskFault the disk had none if its
    -- room is known
    pub caused : IsPackCause disk session old.1 store.payloads store.state store.version status
    -- it comes to its end, or memory runs out, if no device fails and the log has room
    pub completes : (SinkFailed sink old.0 new.0 → ⊥) → (DiskFailed disk old.1 new.1 → ⊥)
        → (PackHasNoRoom session most_bytes store.payloads store.state store.version → ⊥) → (status ≡ Done)
        ⊎ (status ≡ NoMemory)

  pub record Packs : Type 0 where
    pub of_store : (store : Store disk session old.1) → KeepsState store
    -- over bytes that are no store the line `store refused: REASON` was written, unless a device failed or memory ran
    -- out; nothing is written to the disk
    pub refuses : (other : RefusedStore disk session old.1) → RefusesStore sink disk old new status other.reason
