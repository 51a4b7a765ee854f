-- What `compact` and `copy` promise over the store of any kind of session. Read it from the end: `Remakes`, then
-- `RemakesStore` and `KeepsOther`.
use Rattle.std.specs.Prelude.{◌≡◌, ◌⊎◌, ℕ, ◌<◌, List, [], length, Option, Some, IfSome, IsNone}
use Rattle.lens_io.specs.Calls.{SinkFailed, DiskFailed}
use Rattle.lens_io.specs.DiskRuns.{LeavesOnly}
use Rattle.lens_io.specs.declared.disk.Disk as OfDisk
use Rattle.lens_io.specs.declared.sink.Sink as OfSink
use Rattle.store_run.specs.Refusals.{IsUnwritten, refusal_line}
use Rattle.store_run.specs.Stores.{Store, RefusedStore}
use Rattle.store_run.specs.declared.refusals.StoreRefusal.TheVariants.{LogExists}
use Rattle.store_run.specs.declared.session.StoredSession as OfSession
use Rattle.store_new.specs.NewEnds.{GivesLine}
use Rattle.store_new.specs.NewRooms.{PlanHasNoRoom}
use Rattle.store_new.specs.NewStores.{IsTooLong}
use Rattle.store_copy.specs.RemakeEnds.{EndsRemade, EndsUnmade, IsRemade}
use Rattle.command_ends.specs.declared.status.Status.{Status}
use Rattle.command_ends.specs.declared.status.Status.TheVariants.{Done, StoreRefused, DiskFault, NoMemory}

-- A sink, the disk of the store and the one of the new store, before a call and after it.
module _ {K D E : Type 0} (sink : OfSink.Ghosts K) (from : OfDisk.Ghosts D) (to : OfDisk.Ghosts E)
    (old new : K × D × E) (status : Status) where
  -- If the disk of the new store is not empty, nothing was read from the store, and nothing was written to either disk.
  -- The line `store refused: log-exists` was written, or a prefix of it and the sink failed; or the disk failed, and
  -- nothing was written.
  abbrev pub KeepsOther : Type 0
  KeepsOther = IfSome (to.content old.2) (λ bytes. 0 < length bytes
      → (new.1 ≡ old.1) × IsUnwritten to old.2 new.2
      × (GivesLine sink old.0 new.0 (refusal_line LogExists) StoreRefused status
      ⊎ (status ≡ DiskFault) × (new.0 ≡ old.0)))

  -- over a store; `P` says what its new payloads and its line are
  pub record RemakesStore (P : List (List ℕ) → List ℕ → Type 0) : Type 0 where
    -- at its end the new store is made on the other disk, which was empty, and so in each image that a crash may leave
    pub makes : status ≡ Done → IsRemade sink from to old new P
    -- what was written and stored at every status
    pub stops : EndsRemade sink from to old new status P
    -- after DiskFault a disk failed whose room is not known, or the other disk had no room for the new store
    pub caused : status ≡ DiskFault → IsNone (from.room old.1) ⊎ IfSome (to.room old.2) (PlanHasNoRoom P)
    -- it comes to its end, or memory runs out, if the other disk is empty, no device fails, and the new log would have
    -- fewer than 2^63 bytes
    pub completes : to.content old.2 ≡ Some [] → (SinkFailed sink old.0 new.0 → ⊥) → (DiskFailed from old.1 new.1 → ⊥)
        → (DiskFailed to old.2 new.2 → ⊥)
        → ((payloads : List (List ℕ)) (line : List ℕ) → P payloads line → IsTooLong payloads → ⊥)
        → (status ≡ Done) ⊎ (status ≡ NoMemory)

  module _ {A : Type 0} (session : OfSession.Ghosts A)
      (IsPlanned : List (List ℕ) → session.State → Option (List ℕ) → List (List ℕ) → List ℕ → Type 0) where
    pub record Remakes : Type 0 where
      pub of_store : (store : Store from session old.1)
          → RemakesStore (IsPlanned store.payloads store.state store.version)
      -- over bytes that are no store the line `store refused: REASON` was written, unless the other disk is not empty,
      -- a device failed or memory ran out; nothing is written to either disk
      pub refuses : (other : RefusedStore from session old.1) → EndsUnmade sink from to old new status other.reason
      -- over another disk that is not empty
      pub exists : KeepsOther
      -- nothing is written to the disk of the store
      pub only_reads : IsUnwritten from old.1 new.1
      -- a crash leaves nothing new on it, at each moment of the call and at its end
      pub survives : LeavesOnly from old.1 new.1 (from.images old.1)
