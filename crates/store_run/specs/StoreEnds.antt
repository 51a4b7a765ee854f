-- How a command ends that stores a payload and writes a line, as `pack` does.
-- Read it from the end: `StoresBehind`, `StoreEnds`, then `StoreStops`.
use Rattle.std.specs.Prelude.{◌≡◌, ◌⊎◌, ℕ, List, [], ◌∷◌, ◌++◌}
use Rattle.lens_io.specs.declared.sink.Sink as OfSink
use Rattle.lens_io.specs.declared.disk.Disk as OfDisk
use Rattle.gate_log.specs.LogOnDisk.{LogState}
use Rattle.store_run.specs.Effects.{StandsOn, Adds, StopsStoring}
use Rattle.store_run.specs.ApplyEnds.{SaysStop}
use Rattle.store_run.specs.Stopping.{IsOwnStop}
use Rattle.command_ends.specs.declared.status.Status.{Status}
use Rattle.command_ends.specs.declared.status.Status.TheVariants as ending
use Rattle.store_run.specs.declared.stop.Stop.{Stop}

-- A sink, a disk and the log on it, before the storing and after it.
module _ {K D : Type 0} (sink : OfSink.Ghosts K) (disk : OfDisk.Ghosts D) (old new : K × D × LogState) where
  -- The command was stopped at the payloads in front, or at the payload and its line. If the log was full, the line
  -- that says so was written behind, or a prefix of it, and the sink failed.
  pub record StoreStops (line : List ℕ) (front : List (List ℕ)) (payload : List ℕ) (status : Status) : Type 0 where
    pub k1 : K
    pub stop : Stop
    pub own : IsOwnStop stop
    pub stops : StopsStoring sink disk old (k1, new.1, new.2) stop [] [] [] front
        ⊎ StopsStoring sink disk old (k1, new.1, new.2) stop [] line front (payload ∷ [])
    pub status_is : SaysStop sink k1 new.0 stop status

  -- The payloads in front and the payload were stored, and then the line was written; or the command was stopped.
  abbrev pub StoreEnds : List ℕ → List (List ℕ) → List ℕ → Status → Type 0
  StoreEnds line front payload status =
      (status ≡ ending.Done) × Adds sink disk old new line (front ++ payload ∷ [])
      ⊎ StoreStops line front payload status

-- A sink and a disk, before the command and after it.
module _ {K D : Type 0} (sink : OfSink.Ghosts K) (disk : OfDisk.Ghosts D) (old new : K × D) where
  -- The log was opened or made on the disk d1, of which P holds, with these payloads, and from there the command
  -- ended so.
  pub record StoresBehind (P : D → LogState → Type 0) (before : List (List ℕ)) (line : List ℕ) (front : List (List ℕ))
      (payload : List ℕ)
      (status : Status) : Type 0 where
    pub d1 : D
    pub log : LogState
    pub log' : LogState
    pub opens : P d1 log
    pub stands : StandsOn disk d1 log before
    pub ends : StoreEnds sink disk (old.0, d1, log) (new.0, new.1, log') line front payload status
