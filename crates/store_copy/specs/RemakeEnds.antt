-- How a command ends that makes a store anew: what it wrote, and what the disks hold. Read it from the end: `IsRemade`
-- is after `Done`, `EndsUnmade` over bytes that are refused, `EndsRemade` over a store, then their four cases.
use Rattle.std.specs.Prelude.{◌≡◌, ◌⊎◌, ℕ, List, length, IfSome, IsNone}
use Rattle.lens_io.specs.Calls.{Gave}
use Rattle.lens_io.specs.declared.disk.Disk as OfDisk
use Rattle.lens_io.specs.declared.sink.Sink as OfSink
use Rattle.store_run.specs.Refusals.{IsUnwritten, FailsEarly, WritesRefusal}
use Rattle.store_run.specs.declared.refusals.StoreRefusal.{StoreRefusal}
use Rattle.store_new.specs.Making.{IsTaken}
use Rattle.store_new.specs.NewStores.{HoldsStore, EndsMaking}
use Rattle.command_ends.specs.declared.status.Status.{Status}
use Rattle.command_ends.specs.declared.status.Status.TheVariants.{DiskFault}

-- A sink, the disk of the store and the one of the new store, before a call and after it.
module _ {K D E : Type 0} (sink : OfSink.Ghosts K) (from : OfDisk.Ghosts D) (to : OfDisk.Ghosts E)
    (old new : K × D × E) where
  module _ (status : Status) where
    -- the disk of the new store is not empty, and `store refused: log-exists` was written in place of all else
    abbrev pub FindsOther : Type 0
    FindsOther = IsTaken sink to (old.0, old.2) (new.0, new.2) status

    -- A disk failed whose room is not known, or memory ran out, before anything was written.
    pub record FailsBefore : Type 0 where
      pub unwritten : IsUnwritten to old.2 new.2
      pub fails : FailsEarly sink old.0 new.0 status
      pub sure : status ≡ DiskFault → IsNone (from.room old.1) ⊎ IsNone (to.room old.2)

    -- The line `store refused: REASON` was written, and nothing to the disk of the new store.
    pub record RefusesOld (reason : StoreRefusal) : Type 0 where
      pub unwritten : IsUnwritten to old.2 new.2
      pub said : WritesRefusal sink old.0 new.0 reason status

    -- The disk of the new store was empty, and the making of a store as it was planned ended so.
    pub record MakesNew (P : List (List ℕ) → List ℕ → Type 0) : Type 0 where
      pub was_empty : IfSome (to.content old.2) (λ bytes. length bytes ≡ 0)
      pub payloads : List (List ℕ)
      pub line : List ℕ
      pub planned : P payloads line
      pub ends : EndsMaking sink to (old.0, old.2) (new.0, new.2) payloads line status

    -- the end over a store
    abbrev pub EndsRemade : (List (List ℕ) → List ℕ → Type 0) → Type 0
    EndsRemade P = FindsOther ⊎ FailsBefore ⊎ MakesNew P

    -- the end over bytes that are refused for this reason
    abbrev pub EndsUnmade : StoreRefusal → Type 0
    EndsUnmade reason = FindsOther ⊎ FailsBefore ⊎ RefusesOld reason

  -- The new store is made as it was planned, on a disk that was empty: a read of the disk, and each image that a crash
  -- now may leave, holds its payloads. Its line was written.
  pub record IsRemade (P : List (List ℕ) → List ℕ → Type 0) : Type 0 where
    pub was_empty : IfSome (to.content old.2) (λ bytes. length bytes ≡ 0)
    pub payloads : List (List ℕ)
    pub line : List ℕ
    pub planned : P payloads line
    pub holds : HoldsStore to new.2 payloads
    pub given : Gave sink old.0 new.0 line
