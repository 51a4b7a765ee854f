-- The whole command `pack`: what it comes to, and what a crash leaves of it. Read it from the end: `EndsPack` for
-- each status, `PacksCall`, then `IsSafePack`.
use Rattle.std.specs.Prelude.{◌≡◌, ◌⊎◌, ℕ, List, [], ◌∷◌, ◌++◌, Option, None, Ok, option_to_list, IfSome}
use Rattle.lens_io.specs.Calls.{Gave}
use Rattle.lens_io.specs.DiskRuns.{LeavesOnly}
use Rattle.lens_io.specs.declared.sink.Sink as OfSink
use Rattle.lens_io.specs.declared.disk.Disk as OfDisk
use Rattle.gate_log.specs.LogOnDisk.{HoldsPayloads}
use Rattle.store_run.specs.CountLines.{packed_line}
use Rattle.store_run.specs.Effects.{HoldsFirst}
use Rattle.store_run.specs.Refusals.{IsUnwritten, IsOpening, FailsUnopened}
use Rattle.store_run.specs.StoreEnds.{StoresBehind}
use Rattle.store_run.specs.declared.session.StoredSession as OfSession
use Rattle.command_ends.specs.declared.status.Status.{Status}

module _ {A : Type 0} (session : OfSession.Ghosts A) where
  -- the payloads from before, with the first of those that are kept or with all of them, stand for the same state
  abbrev pub EachStandsPacked : List (List ℕ) → session.State → List (List ℕ) → Type 0
  EachStandsPacked before t kept = (front rest : List (List ℕ)) → kept ≡ front ++ rest
      → (v : Option (List ℕ)) × (session.stands_for (before ++ front) ≡ Ok (t, v))

  -- what `pack` stores behind the payloads from before: the version record if it was to be stored, and the snapshot of
  -- the state
  abbrev pub packed : session.State → Option (List ℕ) → List (List ℕ)
  packed t version = option_to_list version ++ session.snapshot_text t ∷ []

module _ {D A : Type 0} (disk : OfDisk.Ghosts D) (session : OfSession.Ghosts A) (old new : D) where
  -- An image that a crash now may leave holds the payloads from before, or these and the version record, or these and
  -- the snapshot. An image of a moment since the start of the call is one of those, or was possible then. Each of these
  -- lists stands for the same state. If no snapshot was made, only the payloads from before are held.
  pub record IsSafePack (past : List ℕ → Type 0) (before : List (List ℕ)) (t : session.State)
      (version : Option (List ℕ)) : Type 0 where
    pub kept : List (List ℕ)
    pub is : (kept ≡ []) ⊎ session.has_snapshot t × (kept ≡ packed session t version)
    pub now : (c : List ℕ) → disk.images new c → HoldsFirst before kept c
    pub moments : LeavesOnly disk old new (λ c. past c ⊎ HoldsFirst before kept c)
    pub stand : EachStandsPacked session before t kept

-- A sink and a disk, before a call and after it. The payloads held before the call stand for the state t, with a
-- version record if it is still to be stored.
module _ {K D A : Type 0} (sink : OfSink.Ghosts K) (disk : OfDisk.Ghosts D) (session : OfSession.Ghosts A) (old : K)
    (new : K × D) where
  -- The payloads held are those from before, the version record if it was to be stored, and the snapshot of the state
  -- for which they stand. They stand for the same state. The line `packed N` was written, N the number of changes
  -- among the payloads from before.
  pub record PacksCall (before : List (List ℕ)) (t : session.State) (version : Option (List ℕ)) : Type 0 where
    pub has : session.has_snapshot t
    pub given : Gave sink old new.0 (packed_line (session.count_of before))
    pub kept : IfSome (disk.content new.1) (HoldsPayloads (before ++ packed session t version))
    pub stand : session.stands_for (before ++ packed session t version) ≡ Ok (t, None)
    pub count : session.count_of (before ++ packed session t version) ≡ session.count_of before

module _ {K D A : Type 0} (sink : OfSink.Ghosts K) (disk : OfDisk.Ghosts D) (session : OfSession.Ghosts A)
    (old new : K × D) where
  -- ---- how the call ends, by its status

  -- The snapshot was made, the log was opened with the payloads from before, and from there the call ended. What is
  -- stored stands for the same state.
  pub record EndsPacked (before : List (List ℕ)) (t : session.State) (version : Option (List ℕ))
      (status : Status) : Type 0 where
    pub has : session.has_snapshot t
    pub ends : StoresBehind sink disk old new (λ d1 _. IsOpening disk old.1 d1) before
        (packed_line (session.count_of before)) (option_to_list version) (session.snapshot_text t) status
    pub stand : EachStandsPacked session before t (packed session t version)

  -- the call ended so, or failed before: then nothing was written to the disk or the sink
  abbrev pub EndsPack : List (List ℕ) → session.State → Option (List ℕ) → Status → Type 0
  EndsPack before t version status =
      EndsPacked before t version status ⊎ IsUnwritten disk old.1 new.1 × FailsUnopened sink disk old new status
