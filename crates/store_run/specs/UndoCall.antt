-- What the bytes of a disk are to `undo`, what a call comes to, and what a crash leaves of it.
-- Read it from the end: `UndoEnds` is for the helpers, then `IsSafeUndo`, `ExitsUndo`, `UndoesCall`, `IsUndoneImage`,
-- `IsUndoCause`, then `StoreToUndo` or `RefusedToUndo`.
use Rattle.std.specs.Prelude.{◌≡◌, ◌⊎◌, ℕ, List, [], ◌∷◌, ◌++◌, Option, Some, option_to_list, IfSome}
use Rattle.lens_io.specs.Calls.{Gave}
use Rattle.lens_io.specs.DiskRuns.{LeavesOnly}
use Rattle.lens_io.specs.declared.disk.Disk as OfDisk
use Rattle.lens_io.specs.declared.sink.Sink as OfSink
use Rattle.gate_log.specs.LogBytes.{LogContent, payloads, not_a_log, bad_record, log_of}
use Rattle.gate_log.specs.LogOnDisk.{HoldsPayloads}
use Rattle.store_run.specs.MoreCall.{EndsUnwritten, ExitsBehind}
use Rattle.store_run.specs.MoreCauses.{IsBehindCauseInRoom}
use Rattle.store_run.specs.Refusals.{IsOpening}
use Rattle.store_run.specs.Rooms.{HasNoRoom}
use Rattle.store_run.specs.StoreEnds.{StoresBehind}
use Rattle.store_run.specs.declared.refusals.StoreRefusal.{StoreRefusal}
use Rattle.store_run.specs.declared.refusals.StoreRefusal.TheVariants.{NotALog, BadRecord}
use Rattle.store_run.specs.declared.undo_session.UndoneSession as OfUndo
use Rattle.command_ends.specs.declared.status.Status.{Status}

-- ---- the bytes of a disk

module _ {A : Type 0} (session : OfUndo.Ghosts A) (count : ℕ) where
  -- why a log is refused, if it is
  abbrev pub undo_refusal_of_log : LogContent → Option StoreRefusal
  undo_refusal_of_log (payloads held) = session.refusal count held
  undo_refusal_of_log not_a_log = Some NotALog
  undo_refusal_of_log (bad_record number) = Some (BadRecord number)

  -- why these bytes are refused, if they are
  abbrev pub undo_refusal_in : List ℕ → Option StoreRefusal
  undo_refusal_in bytes = undo_refusal_of_log (log_of bytes)

module _ {D A : Type 0} (disk : OfDisk.Ghosts D) (session : OfUndo.Ghosts A) (count : ℕ) (d : D) where
  -- The bytes of the disk are known, and are a log of these payloads, whose last changes are undone so.
  pub record StoreToUndo : Type 0 where
    pub bytes : List ℕ
    pub told : disk.content d ≡ Some bytes
    pub payloads : List (List ℕ)
    pub holds : HoldsPayloads payloads bytes
    pub undone : session.Undone
    pub is : session.undoing count payloads ≡ Some undone

  -- The bytes of the disk are known, and `undo` refuses them, for this reason.
  pub record RefusedToUndo : Type 0 where
    pub bytes : List ℕ
    pub told : disk.content d ≡ Some bytes
    pub reason : StoreRefusal
    pub refused : undo_refusal_in session count bytes ≡ Some reason

module _ {A : Type 0} (session : OfUndo.Ghosts A) where
  -- ---- what is stored

  -- the version record, if it is still to be stored, and the snapshot
  abbrev pub new_records : session.Undone → List (List ℕ)
  new_records u = option_to_list (session.version_due u) ++ session.snapshot_text u ∷ []

  -- one of these has no room on a disk of so many bytes
  abbrev pub UndoHasNoRoom : ℕ → List (List ℕ) → session.Undone → Type 0
  UndoHasNoRoom most before u = HasNoRoom most before (new_records u)

  -- What holds after each status over payloads whose last changes are undone. The room of the disk is given, if it is
  -- known. No status comes that is not named.
  abbrev pub IsUndoCauseInRoom : Option ℕ → List (List ℕ) → session.Undone → Status → Type 0
  IsUndoCauseInRoom room before u status = IsBehindCauseInRoom room before (new_records u) status

  -- ---- an image

  -- The image holds the payloads from before the call, or these and the version record. They represent what there was
  -- before the call.
  pub record HoldsNow (held : List (List ℕ)) (u : session.Undone) (image : List ℕ) : Type 0 where
    pub front : List (List ℕ)
    pub rest : List (List ℕ)
    pub parts : option_to_list (session.version_due u) ≡ front ++ rest
    pub holds : HoldsPayloads (held ++ front) image
    pub stand : session.represents_now (held ++ front) u

  -- The image holds the snapshot, too. Its payloads represent what there was before the last changes.
  pub record HoldsUndone (held : List (List ℕ)) (u : session.Undone) (image : List ℕ) : Type 0 where
    pub holds : HoldsPayloads (held ++ new_records u) image
    pub takes_back : session.takes_back held u

  -- the image is one of these two
  abbrev pub IsUndoneImage : List (List ℕ) → session.Undone → List ℕ → Type 0
  IsUndoneImage held u image = HoldsNow held u image ⊎ HoldsUndone held u image

-- ---- the call

module _ {D A : Type 0} (disk : OfDisk.Ghosts D) (session : OfUndo.Ghosts A) (old : D) where
  -- the same cause over this disk
  abbrev pub IsUndoCause : List (List ℕ) → session.Undone → Status → Type 0
  IsUndoCause before u status = IsUndoCauseInRoom session (disk.room old) before u status

-- A sink and a disk, before the call and after it. These payloads are held before the call.
module _ {K D A : Type 0} (sink : OfSink.Ghosts K) (disk : OfDisk.Ghosts D) (session : OfUndo.Ghosts A)
    (old new : K × D) where
  -- The lines were written. The payloads held are those from before, the version record if it was to be stored, and the
  -- snapshot. The words take the documents back, and the store represents what there was before the last changes.
  pub record UndoesCall (before : List (List ℕ)) (u : session.Undone) : Type 0 where
    pub given : Gave sink old.0 new.0 (session.undo_text u)
    pub kept : IfSome (disk.content new.1) (HoldsPayloads (before ++ new_records session u))
    pub takes_back : session.takes_back before u

  -- What was written and stored: the log was opened, and from there the records were stored and the lines written, or
  -- the call was stopped; or it failed before, and nothing was written.
  abbrev pub ExitsUndo : List (List ℕ) → session.Undone → Status → Type 0
  ExitsUndo before u status =
      ExitsBehind sink disk old new before (session.undo_text u) (option_to_list (session.version_due u))
      (session.snapshot_text u) status

  -- For the helpers: how a call ends over a log that stands.
  abbrev pub UndoEnds : List (List ℕ) → session.Undone → Status → Type 0
  UndoEnds before u status =
      StoresBehind sink disk old new (λ d1 _. IsOpening disk old.1 d1) before (session.undo_text u)
      (option_to_list (session.version_due u)) (session.snapshot_text u) status
      × session.takes_back before u
      ⊎ EndsUnwritten sink disk old new before status

module _ {D A : Type 0} (disk : OfDisk.Ghosts D) (session : OfUndo.Ghosts A) (old new : D) where
  -- An image that a crash now may leave represents what there was before the call or, with the snapshot, before the
  -- last changes. An image of a moment since the start of the call is one of those, or was possible then.
  pub record IsSafeUndo (before : List (List ℕ)) (u : session.Undone) : Type 0 where
    pub now : (c : List ℕ) → disk.images new c → IsUndoneImage session before u c
    pub moments : LeavesOnly disk old new (λ c. disk.images old c ⊎ IsUndoneImage session before u c)
