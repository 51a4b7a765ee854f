-- Why a command over a store ended so: the payload for which there was no room, and how many bytes were taken. Read
-- it from the end: `IsPackCause` and `IsApplyCause` by the status, then `RunHasNoRoom`, then `HasNoRoom`.
use Rattle.std.specs.Prelude.{◌≡◌, ℕ, ◌+◌, ◌-◌, ◌^◌, ◌<◌, ◌≤◌, List, [], ◌∷◌, ◌++◌, length, Option, Some}
use Rattle.std.specs.Prelude.{option_to_list, IfSome}
use Rattle.lens_io.specs.Calls.{Took}
use Rattle.lens_io.specs.declared.source.Source as OfSource
use Rattle.lens_io.specs.declared.disk.Disk as OfDisk
use Rattle.edit_journal.specs.Pieces.{lines_of}
use Rattle.edit_journal.specs.declared.line.Line.{Line}
use Rattle.gate_log.specs.LogBytes.{closed_gate}
use Rattle.script_input.specs.declared.limits.TheConstants.{MOST_BYTES}
use Rattle.store_run.specs.PackCall.{packed}
use Rattle.store_run.specs.StoreRuns.{run_in_store, kept_of}
use Rattle.store_run.specs.declared.session.StoredAnswer.{StoredAnswer}
use Rattle.store_run.specs.declared.session.StoredSession as OfSession
use Rattle.command_ends.specs.declared.status.Status.{Status}
use Rattle.command_ends.specs.declared.status.Status.TheVariants as ending

-- A log never passes so many bytes.
abbrev pub most_bytes : ℕ
most_bytes = 2 ^ 63 - 1

-- Behind the payloads from before come these, up to one for which a disk of so many bytes has no room: its record and
-- the gate behind it would end past that many bytes.
pub record HasNoRoom (most : ℕ) (before kept : List (List ℕ)) : Type 0 where
  pub front : List (List ℕ)
  pub payload : List ℕ
  pub rest : List (List ℕ)
  pub parts : kept ≡ front ++ payload ∷ rest
  pub over : most < closed_gate (before ++ front) + 10 + length payload

module _ {S : Type 0} (source : OfSource.Ghosts S) (old new : S) where
  -- so many bytes were taken from the source, and not more than the limit
  pub record TakesWithin : Type 0 where
    pub bytes : List ℕ
    pub consumes : Took source old new bytes
    pub within : length bytes ≤ MOST_BYTES

  -- one byte more than the limit was taken from the source
  pub record TakesTooMany : Type 0 where
    pub bytes : List ℕ
    pub consumes : Took source old new bytes
    pub over : length bytes ≡ MOST_BYTES + 1

module _ {S A : Type 0} (source : OfSource.Ghosts S) (session : OfSession.Ghosts A) (old new : S) where
  -- In the run over the first of the lines taken there is a payload, the version record or that of a change, for
  -- which a disk of so many bytes has no room.
  pub record RunHasNoRoom (most : ℕ) (before : List (List ℕ)) (t : session.State)
      (version : Option (List ℕ)) : Type 0 where
    pub bytes : List ℕ
    pub consumes : Took source old new bytes
    pub lines : List Line
    pub rest : List Line
    pub parts : lines_of bytes ≡ lines ++ rest
    pub steps : List (session.State × StoredAnswer)
    pub is_run : run_in_store session t 0 lines ≡ Some steps
    pub no_room : HasNoRoom most before (option_to_list version ++ kept_of steps)

  -- What holds after each status of `apply` over payloads that stand for a session, on a disk of this room.
  -- `StoreRefused`: the log had no room. `DiskFault`: if the disk's room is known, it had none. `InputTooLong`: too
  -- many bytes were taken; after `Done`, `SomeRefused` and `SourceFault` not. No status comes that is not named.
  abbrev pub IsCauseInRoom : Option ℕ → List (List ℕ) → session.State → Option (List ℕ) → Status → Type 0
  IsCauseInRoom room before t version ending.StoreRefused = RunHasNoRoom most_bytes before t version
  IsCauseInRoom room before t version ending.DiskFault = IfSome room (λ most. RunHasNoRoom most before t version)
  IsCauseInRoom room before t version ending.InputTooLong = TakesTooMany source old new
  IsCauseInRoom room before t version ending.Done = TakesWithin source old new
  IsCauseInRoom room before t version ending.SomeRefused = TakesWithin source old new
  IsCauseInRoom room before t version ending.SourceFault = TakesWithin source old new
  IsCauseInRoom room before t version ending.SinkFault = Unit {0}
  IsCauseInRoom room before t version ending.NoMemory = Unit {0}
  IsCauseInRoom room before t version status = ⊥

module _ {S D A : Type 0} (source : OfSource.Ghosts S) (disk : OfDisk.Ghosts D) (session : OfSession.Ghosts A)
    (old new : S × D) where
  -- the same, of a source and a disk before the call and after it
  abbrev pub IsApplyCause : List (List ℕ) → session.State → Option (List ℕ) → Status → Type 0
  IsApplyCause before t version status =
      IsCauseInRoom source session old.0 new.0 (disk.room old.1) before t version status

module _ {A : Type 0} (session : OfSession.Ghosts A) where
  -- The version record, if it is to be stored, or the snapshot of the state has no room on a disk of so many bytes. The
  -- snapshot is a function of the state, so no other payload can be meant.
  abbrev pub PackHasNoRoom : ℕ → List (List ℕ) → session.State → Option (List ℕ) → Type 0
  PackHasNoRoom most before t version =
      session.has_snapshot t × HasNoRoom most before (packed session t version)

  -- What holds after each status of `pack` over payloads that stand for a session, on a disk of this room. No status
  -- comes that is not named.
  abbrev pub IsPackCauseInRoom : Option ℕ → List (List ℕ) → session.State → Option (List ℕ) → Status → Type 0
  IsPackCauseInRoom room before t version ending.StoreRefused = PackHasNoRoom most_bytes before t version
  IsPackCauseInRoom room before t version ending.DiskFault = IfSome room (λ most. PackHasNoRoom most before t version)
  IsPackCauseInRoom room before t version ending.Done = Unit {0}
  IsPackCauseInRoom room before t version ending.SinkFault = Unit {0}
  IsPackCauseInRoom room before t version ending.NoMemory = Unit {0}
  IsPackCauseInRoom room before t version status = ⊥

module _ {D A : Type 0} (disk : OfDisk.Ghosts D) (session : OfSession.Ghosts A) (old : D) where
  -- the same, of a disk before the call
  abbrev pub IsPackCause : List (List ℕ) → session.State → Option (List ℕ) → Status → Type 0
  IsPackCause before t version status = IsPackCauseInRoom session (disk.room old) before t version status
