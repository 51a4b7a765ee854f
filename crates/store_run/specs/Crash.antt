-- What a crash leaves of a store that goes on, beside the answers that were written.
-- Read it from the end: `IsCrashSafe`, then `IsAcknowledged`.
use Rattle.std.specs.Prelude.{◌≡◌, ℕ, ◌+◌, ◌≤◌, List, ◌++◌, length}
use Rattle.lens_io.specs.Calls.{Gave}
use Rattle.lens_io.specs.DiskRuns.{LeavesOnly}
use Rattle.lens_io.specs.declared.sink.Sink as OfSink
use Rattle.lens_io.specs.declared.disk.Disk as OfDisk
use Rattle.gate_log.specs.LogOnDisk.{LogState, HoldsPayloads}
use Rattle.store_run.specs.Effects.{HoldsFirst, StandsOn}
use Rattle.store_run.specs.OkLines.{ok_lines}

-- The image holds the base and the first of the payloads that are kept, in order. They are at least as many as the
-- `ok` lines that were written, and at most one more.
pub record IsAcknowledged (base kept : List (List ℕ)) (given image : List ℕ) : Type 0 where
  pub front : List (List ℕ)
  pub rest : List (List ℕ)
  pub parts : kept ≡ front ++ rest
  pub holds : HoldsPayloads (base ++ front) image
  pub least : ok_lines given ≤ length front
  pub most : length front ≤ ok_lines given + 1

-- A sink, a disk and the log on it, before a part of a call and after it.
module _ {K D : Type 0} (sink : OfSink.Ghosts K) (disk : OfDisk.Ghosts D) (old new : K × D × LogState) where
  -- These bytes were written. An image that a crash now may leave holds the payloads whose `ok` lines are among them,
  -- and at most one more. An image of a moment since the start holds the payloads from before and the first of those
  -- that are kept.
  pub record IsCrashSafe (kept : List (List ℕ)) : Type 0 where
    pub given : List ℕ
    pub appends : Gave sink old.0 new.0 given
    pub now : (base : List (List ℕ)) → StandsOn disk old.1 old.2 base
        → (c : List ℕ) → disk.images new.1 c → IsAcknowledged base kept given c
    pub moments : (base : List (List ℕ)) → StandsOn disk old.1 old.2 base
        → LeavesOnly disk old.1 new.1 (HoldsFirst base kept)
