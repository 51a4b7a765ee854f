-- What holds of every disk and every log: a read and each image hold the payloads that stand.
use Rattle.std.proofs.Common.{◌≡◌, ℕ, List, Some}
use Rattle.std.specs.Prelude.{IfSome}
use Rattle.lens_io.specs.declared.disk.Disk as OfDisk
use Rattle.gate_log.specs.LogOnDisk.{LogState, HoldsPayloads}
use Rattle.gate_log.specs.StandsLaws.{images_hold}
use Rattle.store_run.specs.Effects.{StandsOn}

module _ {D : Type 0} (disk : OfDisk.Ghosts D) where
  -- what a read gives holds the payloads
  pub reads_held : (l : LogState) (d : D) (held : List (List ℕ)) → StandsOn disk d l held → IfSome (disk.content d) (HoldsPayloads held)
  reads_held l d held s = s.read

  -- each image that a crash now may leave holds the payloads
  pub images_held : ((d : D) (c : List ℕ) → disk.images d c → (bytes : List ℕ) × (disk.content d ≡ Some bytes) × disk.images d bytes)
      → (l : LogState) (d : D) (held : List (List ℕ)) (c : List ℕ) → StandsOn disk d l held → disk.images d c → HoldsPayloads held c
  images_held known l d held c s now = images_hold (disk.content d) (disk.images d) c (known d c now) l held s now
