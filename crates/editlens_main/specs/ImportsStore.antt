-- What `import` promises: what `init` does, with the entry that makes the document behind the program.
use Rattle.std.specs.Prelude.{◌≡◌, IfSome}
use Rattle.lens_io.specs.declared.disk.Disk as OfDisk
use Rattle.lens_io.specs.declared.sink.Sink as OfSink
use Rattle.lens_io.specs.declared.source.Source as OfSource
use Rattle.store_new.specs.NewEnds.{Ends, Completes, RefusesAtOnce}
use Rattle.store_new.specs.NewRooms.{ScriptHasNoRoom}
use Rattle.store_new.specs.Scripts.{one_program}
use Rattle.store_new.specs.Import.{Imports, RefusesImport, import_command}
use Rattle.editlens_main.specs.MakesStore.{FindsLog}
use Rattle.command_ends.specs.declared.status.Status.{Status}
use Rattle.command_ends.specs.declared.status.Status.TheVariants.{Done, SomeRefused, DiskFault}
use Rattle.store_run.specs.Devices.{Devices}

module _ {S K D : Type 0} (source : OfSource.Ghosts S) (sink : OfSink.Ghosts K) (disk : OfDisk.Ghosts D)
    (old new : Devices S K D) (status : Status) where
  pub record ImportsStore : Type 0 where
    -- after Done the disk was empty, and holds the program and the entry that makes the document; its answer and the
    -- state lines were written, for a consistent triple whose left document is the one that was read
    pub brings : status ≡ Done → Imports source sink disk old new
    -- after SomeRefused the script has no document of the left type; the line `import refused: REASON` was written, and
    -- the disk is as before
    pub declines : status ≡ SomeRefused → RefusesImport source sink disk old new
    -- what was taken, written and stored at every status, and what a crash leaves
    pub stops : Ends source sink disk import_command old new status
    -- A program part that is whole and refused is refused, whatever comes after it, unless the sink failed or memory
    -- ran out. Then at most the rest of the call of the source that ended its separator was read; where no separator
    -- came, the source is at its end.
    pub at_once : RefusesAtOnce one_program source old.source new.source status
    -- a disk of known room fails only if the script was read to its end and the disk has no room for its store
    pub caused : status ≡ DiskFault
        → IfSome (disk.room old.disk) (ScriptHasNoRoom source import_command old.source new.source)
    -- over an empty disk and at most 2^30 bytes, if no device fails and the log has room, it comes to its end, or
    -- refuses the program part or the document, or memory runs out
    pub completes : Completes source sink disk import_command old new status
    -- over a disk that is not empty the line `store refused: log-exists` was written, unless a device failed or memory
    -- ran out; nothing was read or stored
    pub refuses : FindsLog source sink disk old new status
