-- A command that stores records behind those of a store, or one record: what it comes to, and what a crash leaves of
-- it. Read it from the end: `IsSafeMore`, `ExitsMore`, `StoresOne`, then `GoesTo`.
use Rattle.std.specs.Prelude.{◌≡◌, ◌⊎◌, ℕ, List, [], ◌∷◌, ◌++◌, None, Ok, IfSome}
use Rattle.lens_io.specs.Calls.{Gave}
use Rattle.lens_io.specs.DiskRuns.{LeavesOnly}
use Rattle.lens_io.specs.declared.disk.Disk as OfDisk
use Rattle.lens_io.specs.declared.sink.Sink as OfSink
use Rattle.gate_log.specs.LogOnDisk.{HoldsPayloads}
use Rattle.store_run.specs.Refusals.{IsUnwritten, IsOpening, FailsUnopened}
use Rattle.store_run.specs.StoreEnds.{StoresBehind}
use Rattle.store_run.specs.declared.session.StoredSession as OfSession
use Rattle.command_ends.specs.declared.status.Status.{Status}

-- The payloads from before represent the one state, and with this payload behind them the other.
pub record GoesTo {A : Type 0} (session : OfSession.Ghosts A) (before : List (List ℕ)) (payload : List ℕ)
    (was now : session.State) : Type 0 where
  pub stood : session.stands_for before ≡ Ok (was, None)
  pub stand : session.stands_for (before ++ payload ∷ []) ≡ Ok (now, None)

-- an image holds the payloads from before, or these and the new one
abbrev pub IsImage : List (List ℕ) → List ℕ → List ℕ → Type 0
IsImage before payload image = HoldsPayloads before image ⊎ HoldsPayloads (before ++ payload ∷ []) image

-- A sink and a disk, before the call and after it. These payloads are held before the call.
module _ {K D : Type 0} (sink : OfSink.Ghosts K) (disk : OfDisk.Ghosts D) (old new : K × D) where
  -- the records are stored behind the payloads from before, and the lines were written
  pub record StoresAll (before records : List (List ℕ)) (lines : List ℕ) : Type 0 where
    pub given : Gave sink old.0 new.0 lines
    pub kept : IfSome (disk.content new.1) (HoldsPayloads (before ++ records))

  -- the same of one payload
  abbrev pub StoresOne : List (List ℕ) → List ℕ → List ℕ → Type 0
  StoresOne before payload lines = StoresAll before (payload ∷ []) lines

  -- The sync of the opening failed. Nothing was written, and there is no image that was not possible before.
  pub record IsUntouched : Type 0 where
    pub given : Gave sink old.0 new.0 []
    pub only : (c : List ℕ) → disk.images new.1 c → disk.images old.1 c
    pub moments : LeavesOnly disk old.1 new.1 (disk.images old.1)

  -- What was written and stored: the log was opened, and from there the payloads in front and the payload were stored
  -- and the lines written, or the call was stopped; or it failed before, and nothing was written.
  abbrev pub ExitsBehind : List (List ℕ) → List ℕ → List (List ℕ) → List ℕ → Status → Type 0
  ExitsBehind before lines front payload status =
      StoresBehind sink disk old new (λ d1 _. IsOpening disk old.1 d1) before lines front payload status
      ⊎ IsUnwritten disk old.1 new.1 × FailsUnopened sink disk old new status

  -- the same of one payload
  abbrev pub ExitsMore : List (List ℕ) → List ℕ → List ℕ → Status → Type 0
  ExitsMore before payload lines status = ExitsBehind before lines [] payload status

  -- For the helpers: the call failed over a log that stands before anything was written.
  pub record EndsUnwritten (before : List (List ℕ)) (status : Status) : Type 0 where
    pub opens : IsOpening disk old.1 new.1
    pub holds : (c : List ℕ) → disk.images new.1 c → HoldsPayloads before c
    pub fails : FailsUnopened sink disk old new status

  -- For the helpers: how a call ends over a log that stands.
  abbrev pub EndsBehind : List (List ℕ) → List ℕ → List (List ℕ) → List ℕ → Status → Type 0
  EndsBehind before lines front payload status =
      StoresBehind sink disk old new (λ d1 _. IsOpening disk old.1 d1) before lines front payload status
      ⊎ EndsUnwritten before status

  abbrev pub MoreEnds : List (List ℕ) → List ℕ → List ℕ → Status → Type 0
  MoreEnds before payload lines status = EndsBehind before lines [] payload status

module _ {D : Type 0} (disk : OfDisk.Ghosts D) (old new : D) where
  -- An image that a crash now may leave holds the payloads from before, or these and the new one. An image of a moment
  -- since the start of the call is one of those, or was possible then.
  pub record IsSafeMore (before : List (List ℕ)) (payload : List ℕ) : Type 0 where
    pub now : (c : List ℕ) → disk.images new c → IsImage before payload c
    pub moments : LeavesOnly disk old new (λ c. disk.images old c ⊎ IsImage before payload c)
