-- What `init` and `import` do over a disk that is not empty.
use Rattle.std.proofs.Common.{◌≡◌, ◌⊎◌, inl, inr, ◌<◌, ℕ, List, length, Option, Some, None, IfSome}
use Rattle.command_ends.specs.declared.status.Status.{Status}
use Rattle.command_ends.specs.declared.status.Status.TheVariants.{StoreRefused, DiskFault, NoMemory}
use Rattle.lens_io.specs.declared.disk.Disk as OfDisk
use Rattle.lens_io.specs.declared.sink.Sink as OfSink
use Rattle.lens_io.specs.declared.source.Source as OfSource
use Rattle.store_new.specs.NewEnds.{GivesLine, KeepsStore}
use Rattle.store_run.specs.Devices.{Devices}
use Rattle.store_run.specs.Refusals.{IsUnwritten, refusal_line}
use Rattle.store_run.specs.declared.refusals.StoreRefusal.TheVariants.{LogExists}
use Rattle.editlens_main.specs.MakesStore.{FindsLog}

module _ {S K D : Type 0} (source : OfSource.Ghosts S) (sink : OfSink.Ghosts K) (disk : OfDisk.Ghosts D) (old new : Devices S K D) (status : Status) where
  abbrev Line : Type 0
  Line = GivesLine sink old.sink new.sink (refusal_line LogExists) StoreRefused status

  pub finds_log : KeepsStore source sink disk old new status → FindsLog source sink disk old new status
  finds_log h = by_content (disk.content old.disk) h where
    given : Line ⊎ (status ≡ DiskFault) × (new.sink ≡ old.sink) → Line ⊎ ((status ≡ DiskFault) ⊎ (status ≡ NoMemory)) × (new.sink ≡ old.sink)
    given (inl x) = inl x
    given (inr x) = inr (inl x.0, x.1)

    by_content : (o : Option (List ℕ))
        → IfSome o (λ bytes. 0 < length bytes → (new.source ≡ old.source) × IsUnwritten disk old.disk new.disk × (Line ⊎ (status ≡ DiskFault) × (new.sink ≡ old.sink)))
        → IfSome o (λ bytes. 0 < length bytes → (new.source ≡ old.source) × IsUnwritten disk old.disk new.disk × (Line ⊎ ((status ≡ DiskFault) ⊎ (status ≡ NoMemory)) × (new.sink ≡ old.sink)))
    by_content None h = tt
    by_content (Some bytes) h = λ some. let x = h some in (x.0, x.1, given x.2)
