-- The status of a command whose script was not read to its end.
use Rattle.lens_io.specs.declared.failed.TakeFault.{TakeFault}
use Rattle.lens_io.specs.declared.failed.TakeFault.TheVariants as taking
use Rattle.command_ends.specs.declared.status.Status.{Status}
use Rattle.command_ends.specs.declared.status.Status.TheVariants.{SourceFault, InputTooLong, NoMemory}

abbrev pub status_at : TakeFault → Status
status_at taking.SourceFault = SourceFault
status_at taking.TooLong = InputTooLong
status_at taking.NoMemory = NoMemory
