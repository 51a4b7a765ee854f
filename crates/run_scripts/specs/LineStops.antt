-- What stops a run at a piece of its input, and the status of a command that was stopped.
use Rattle.lens_io.specs.declared.failed.TakeFault.{TakeFault}
use Rattle.lens_io.specs.declared.failed.TakeFault.TheVariants as taking
use Rattle.command_ends.specs.declared.status.Status.{Status}
use Rattle.command_ends.specs.declared.status.Status.TheVariants as ending
use Rattle.run_scripts.specs.declared.stopped.Stopped.{Stopped}
use Rattle.run_scripts.specs.declared.stopped.Stopped.TheVariants.{SourceFault, SinkFault, TooLong, NoMemory}

abbrev pub stop_of : TakeFault → Stopped
stop_of taking.SourceFault = SourceFault
stop_of taking.TooLong = TooLong
stop_of taking.NoMemory = NoMemory

abbrev pub status_of : Stopped → Status
status_of SourceFault = ending.SourceFault
status_of TooLong = ending.InputTooLong
status_of SinkFault = ending.SinkFault
status_of NoMemory = ending.NoMemory
