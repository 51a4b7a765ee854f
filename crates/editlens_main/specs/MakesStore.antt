-- What `init` promises. What it takes, writes and stores at each status is defined in store_new.
use Rattle.std.specs.Prelude.{◌≡◌, ◌⊎◌, ◌<◌, length, IfSome}
use Rattle.lens_io.specs.declared.disk.Disk as OfDisk
use Rattle.lens_io.specs.declared.sink.Sink as OfSink
use Rattle.lens_io.specs.declared.source.Source as OfSource
use Rattle.store_new.specs.NewEnds.{Ends, GivesLine, Completes, RefusesAtOnce}
use Rattle.store_new.specs.NewRooms.{ScriptHasNoRoom}
use Rattle.store_new.specs.Scripts.{one_program}
use Rattle.command_ends.specs.declared.status.Status.TheVariants as making
use Rattle.store_new.specs.Init.{Starts, init_command}
use Rattle.store_run.specs.Devices.{Devices}
use Rattle.store_run.specs.Refusals.{IsUnwritten, refusal_line}
use Rattle.store_run.specs.declared.refusals.StoreRefusal.TheVariants.{LogExists}
use Rattle.command_ends.specs.declared.status.Status.{Status}
use Rattle.command_ends.specs.declared.status.Status.TheVariants.{Done, DiskFault}

module _ {S K D : Type 0} (source : OfSource.Ghosts S) (sink : OfSink.Ghosts K) (disk : OfDisk.Ghosts D)
    (old new : Devices S K D) (status : Status) where
  -- If the disk is not empty, nothing is taken from the source and nothing is written to the disk. The line
  -- `store refused: log-exists` was written, or a beginning of it and the sink failed; or the disk failed or memory ran
  -- out before, and nothing was written.
  abbrev pub FindsLog : Type 0
  FindsLog = IfSome (disk.content old.disk) (λ bytes. 0 < length bytes
      → (new.source ≡ old.source) × IsUnwritten disk old.disk new.disk
      × (GivesLine sink old.sink new.sink (refusal_line LogExists) making.StoreRefused status
      ⊎ ((status ≡ making.DiskFault) ⊎ (status ≡ making.NoMemory)) × (new.sink ≡ old.sink)))

  pub record MakesStore : Type 0 where
    -- after Done the script was read to its end and the disk was empty; it holds the program alone, in each image that
    -- a crash may leave too. That represents the first triple of the lens, whose state lines were written.
    pub starts : status ≡ Done → Starts source sink disk old new
    -- what was taken, written and stored at every status, and what a crash leaves
    pub stops : Ends source sink disk init_command old new status
    -- A program part that is whole and refused is refused, whatever comes after it, unless the sink failed or memory
    -- ran out. Then at most the rest of the call of the source that ended its separator was read; where no separator
    -- came, the source is at its end.
    pub at_once : RefusesAtOnce one_program source old.source new.source status
    -- a disk of known room fails only if the script was read to its end and the disk has no room for its store
    pub caused : status ≡ DiskFault
        → IfSome (disk.room old.disk) (ScriptHasNoRoom source init_command old.source new.source)
    -- over an empty disk and at most 2^30 bytes, if no device fails and the log has room, it comes to its end, or
    -- refuses the program part, or memory runs out
    pub completes : Completes source sink disk init_command old new status
    -- over a disk that is not empty the line `store refused: log-exists` was written, unless a device failed or memory
    -- ran out; nothing was read or stored
    pub refuses : FindsLog
