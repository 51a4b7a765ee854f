-- A call over devices: what they told before it and after it. Each device is given by the record of its ghost members.
use Rattle.std.specs.Prelude.{◌≡◌, ℕ, ◌-◌, List, length, take}
use Rattle.std.specs.Io.KnownBytes.{Consumes, Appends, IsAtEnd}
use Rattle.lens_io.specs.Causes as causes
use Rattle.lens_io.specs.Causes.{Increased}
use Rattle.lens_io.specs.Content.{AppendsFront}
use Rattle.lens_io.specs.declared.source.Source as OfSource
use Rattle.lens_io.specs.declared.sink.Sink as OfSink
use Rattle.lens_io.specs.declared.disk.Disk as OfDisk

module _ {S : Type 0} (source : OfSource.Ghosts S) (old new : S) where
  -- these bytes were taken. Nothing is said if the source does not tell what it has left
  abbrev pub Took : List ℕ → Type 0
  Took bytes = Consumes (source.left old) (source.left new) bytes

  -- the source is at its end
  abbrev pub IsRead : Type 0
  IsRead = IsAtEnd (source.left new)

  -- of these bytes, which were taken, those that were taken before the last call
  abbrev pub before_last : List ℕ → List ℕ
  before_last bytes = take (length bytes - source.last new) bytes

  -- the source was not called
  abbrev pub IsUnasked : Type 0
  IsUnasked = new ≡ old

  abbrev pub SourceFailed : Type 0
  SourceFailed = Increased (source.faults old) (source.faults new)

module _ {K : Type 0} (sink : OfSink.Ghosts K) (old new : K) where
  -- this text was written
  abbrev pub Gave : List ℕ → Type 0
  Gave text = Appends (sink.held old) (sink.held new) text

  -- a beginning of it was, and not all
  abbrev pub GaveFront : List ℕ → Type 0
  GaveFront text = AppendsFront (sink.held old) (sink.held new) text

  abbrev pub SinkFailed : Type 0
  SinkFailed = causes.SinkCallFailed sink.faults sink.empty_takes sink.room sink.held old new

module _ {D : Type 0} (disk : OfDisk.Ghosts D) (old new : D) where
  abbrev pub DiskFailed : Type 0
  DiskFailed = Increased (disk.faults old) (disk.faults new)
