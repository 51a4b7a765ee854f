-- What `undo` promises over the store of any kind of session. Read it from the end: `Undoes`, then `TakesChangesBack`.
use Rattle.std.specs.Prelude.{◌≡◌, ◌⊎◌, ℕ, List}
use Rattle.lens_io.specs.Calls.{SinkFailed, DiskFailed}
use Rattle.lens_io.specs.declared.disk.Disk as OfDisk
use Rattle.lens_io.specs.declared.sink.Sink as OfSink
use Rattle.store_run.specs.MoreCall.{IsUntouched}
use Rattle.store_run.specs.Refusals.{RefusesStore}
use Rattle.store_run.specs.Rooms.{most_bytes}
use Rattle.store_run.specs.UndoCall.{StoreToUndo, RefusedToUndo, UndoesCall, ExitsUndo, IsSafeUndo, HoldsNow}
use Rattle.store_run.specs.UndoCall.{UndoHasNoRoom, IsUndoCause}
use Rattle.store_run.specs.declared.undo_session.UndoneSession as OfUndo
use Rattle.command_ends.specs.declared.status.Status.{Status}
use Rattle.command_ends.specs.declared.status.Status.TheVariants.{Done, StoreRefused, DiskFault, NoMemory}

-- `IsUncalled` says that the call ended before any device was called.
module _ {K D A : Type 0} (sink : OfSink.Ghosts K) (disk : OfDisk.Ghosts D) (session : OfUndo.Ghosts A) (count : ℕ)
    (IsUncalled : Type 0) (old new : K × D) (status : Status) where
  -- the store was not opened: the disk failed, and nothing has changed; or no device was called
  abbrev pub UnopenedUndo : Type 0
  UnopenedUndo = (status ≡ DiskFault) × IsUntouched sink disk old new ⊎ IsUncalled

  -- over a store whose last records, so many as the count says, are of changes, which can be undone
  pub record TakesChangesBack (store : StoreToUndo disk session count old.1) : Type 0 where
    -- at its end the store holds one more snapshot, of what was in step before the last changes, and represents that;
    -- the words that were written take each document back
    pub continues : status ≡ Done → UndoesCall sink disk session old new store.payloads store.undone
    -- what was written and stored at every status
    pub stops : ExitsUndo sink disk session old new store.payloads store.undone status
    -- an image of a crash, at each moment of the call and at its end, was possible before the call, or represents what
    -- there was before the last changes or before the call
    pub survives : UnopenedUndo ⊎ IsSafeUndo disk session old.1 new.1 store.payloads store.undone
    -- After NoMemory and StoreRefused the snapshot is not stored: an image that a crash now may leave represents what
    -- there was before the call; or no device was called.
    pub unstored : (status ≡ NoMemory) ⊎ (status ≡ StoreRefused) → (image : List ℕ) → disk.images new.1 image
        → IsUncalled ⊎ HoldsNow session store.payloads store.undone image
    -- after StoreRefused the log had no room for a record, and after DiskFault the disk had none if its room is known
    pub caused : IsUndoCause disk session old.1 store.payloads store.undone status
    -- it comes to its end, or memory runs out, if no device fails and the log has room
    pub completes : (SinkFailed sink old.0 new.0 → ⊥) → (DiskFailed disk old.1 new.1 → ⊥)
        → (UndoHasNoRoom session most_bytes store.payloads store.undone → ⊥) → (status ≡ Done) ⊎ (status ≡ NoMemory)

  pub record Undoes : Type 0 where
    pub of_store : (store : StoreToUndo disk session count old.1) → TakesChangesBack store
    -- over any other bytes the line `store refused: REASON` was written, unless a device failed or memory ran out;
    -- nothing is written to the disk. The reason is `nothing-to-undo` if they are a store.
    pub refuses : (other : RefusedToUndo disk session count old.1) → RefusesStore sink disk old new status other.reason
