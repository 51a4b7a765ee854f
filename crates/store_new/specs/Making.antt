-- For the helpers that make a store: how the storing of its payloads ends.
use Rattle.std.specs.Prelude.{◌≡◌, ◌⊎◌, ℕ, ◌<◌, List, [], length, IfSome}
use Rattle.lens_io.specs.Calls.{Gave}
use Rattle.lens_io.specs.declared.disk.Disk as OfDisk
use Rattle.lens_io.specs.declared.sink.Sink as OfSink
use Rattle.gate_log.specs.declared.fault.LogFault.{LogFault}
use Rattle.gate_log.specs.declared.fault.LogFault.TheVariants as log
use Rattle.store_run.specs.Refusals.{IsUnwritten, refusal_line}
use Rattle.store_run.specs.declared.refusals.StoreRefusal.TheVariants.{LogExists, LogFull}
use Rattle.store_new.specs.NewEnds.{GivesLine}
use Rattle.store_new.specs.NewStores.{IsTooLong, HoldsFirstOnly, EndsMaking}
use Rattle.command_ends.specs.declared.status.Status.{Status}
use Rattle.command_ends.specs.declared.status.Status.TheVariants.{StoreRefused, DiskFault, NoMemory}

module _ {K : Type 0} (sink : OfSink.Ghosts K) (old new : K) where
  -- how a command ends whose payloads were not all stored, for this fault
  abbrev pub EndsStopped : LogFault → Status → Type 0
  EndsStopped log.LogFull status = GivesLine sink old new (refusal_line LogFull) StoreRefused status
  EndsStopped log.NoMemory status = (status ≡ NoMemory) × Gave sink old new []
  EndsStopped fault status = (status ≡ DiskFault) × Gave sink old new []

module _ {D : Type 0} (disk : OfDisk.Ghosts D) where
  -- What the disk holds if the storing of these payloads stops: the first of them. After a fault of the disk it may
  -- hold any bytes.
  abbrev pub StopsAppending : D → List (List ℕ) → LogFault → Type 0
  StopsAppending d payloads log.LogFull = IsTooLong payloads × HoldsFirstOnly disk d payloads
  StopsAppending d payloads log.NoMemory = HoldsFirstOnly disk d payloads
  StopsAppending d payloads log.DiskFault = Unit {0}
  StopsAppending d payloads fault = ⊥

module _ {K D : Type 0} (sink : OfSink.Ghosts K) (disk : OfDisk.Ghosts D) (old new : K × D) where
  -- the disk is not empty, which only a disk whose content is not known may be now
  pub record IsTaken (status : Status) : Type 0 where
    pub some : IfSome (disk.content old.1) (λ bytes. 0 < length bytes)
    pub unwritten : IsUnwritten disk old.1 new.1
    pub given : GivesLine sink old.0 new.0 (refusal_line LogExists) StoreRefused status

  -- how the making of a store ends
  abbrev pub EndsStore : List (List ℕ) → List ℕ → Status → Type 0
  EndsStore payloads lines status = IsTaken status ⊎ EndsMaking sink disk old new payloads lines status

  -- a store as it was planned was made, or its making stopped
  pub record EndsWith (P : List (List ℕ) → List ℕ → Type 0) (status : Status) : Type 0 where
    pub payloads : List (List ℕ)
    pub lines : List ℕ
    pub planned : P payloads lines
    pub ends : EndsStore payloads lines status

  -- the same; or memory ran out before it began
  abbrev pub EndsPlan : (List (List ℕ) → List ℕ → Type 0) → Status → Type 0
  EndsPlan P status = EndsWith P status ⊎ (status ≡ NoMemory) × (new.1 ≡ old.1) × Gave sink old.0 new.0 []
