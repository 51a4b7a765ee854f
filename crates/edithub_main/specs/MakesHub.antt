-- What `init` promises of a hub. What it takes, writes and stores at each status is defined in store_new and hub_new.
use Rattle.std.specs.Prelude.{◌≡◌, IfSome}
use Rattle.lens_io.specs.declared.disk.Disk as OfDisk
use Rattle.lens_io.specs.declared.sink.Sink as OfSink
use Rattle.lens_io.specs.declared.source.Source as OfSource
use Rattle.hub_new.specs.HubInit.{StartsHub, hub_command}
use Rattle.hub_new.specs.HubParts.{view_programs}
use Rattle.store_new.specs.NewEnds.{Ends, Completes, KeepsStore, RefusesAtOnce}
use Rattle.store_new.specs.NewRooms.{ScriptHasNoRoom}
use Rattle.command_ends.specs.declared.status.Status.{Status}
use Rattle.command_ends.specs.declared.status.Status.TheVariants.{Done, DiskFault}
use Rattle.store_run.specs.Devices.{Devices}

module _ {S K D : Type 0} (source : OfSource.Ghosts S) (sink : OfSink.Ghosts K) (disk : OfDisk.Ghosts D)
    (old new : Devices S K D) (status : Status) where
  pub record MakesHub : Type 0 where
    -- after Done the script was read to its end and the disk was empty; it holds the programs alone, in each image that
    -- a crash may leave too. They represent the first hub of their lenses, whose state lines were written.
    pub starts : status ≡ Done → StartsHub source sink disk old new
    -- what was taken, written and stored at every status, and what a crash leaves
    pub stops : Ends source sink disk hub_command old new status
    -- A program part that is whole and refused is refused, whatever comes after it, unless the sink failed or memory
    -- ran out. Then at most the rest of the call of the source that ended its separator was read; where no separator
    -- came, the source is at its end.
    pub at_once : RefusesAtOnce view_programs source old.source new.source status
    -- a disk of known room fails only if the script was read to its end and the disk has no room for its store
    pub caused : status ≡ DiskFault
        → IfSome (disk.room old.disk) (ScriptHasNoRoom source hub_command old.source new.source)
    -- over an empty disk and at most 2^30 bytes, if no device fails and the log has room, it comes to its end, or
    -- refuses the program part, or memory runs out
    pub completes : Completes source sink disk hub_command old new status
    -- over a disk that is not empty the line `store refused: log-exists` was written, unless a device failed; nothing
    -- was read or stored
    pub refuses : KeepsStore source sink disk old new status
