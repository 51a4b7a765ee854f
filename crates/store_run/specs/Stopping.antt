-- The stop that a fault of the log or of the input makes.
use Rattle.lens_io.specs.declared.failed.TakeFault.{TakeFault}
use Rattle.lens_io.specs.declared.failed.TakeFault.TheVariants as taking
use Rattle.gate_log.specs.declared.fault.LogFault.{LogFault}
use Rattle.gate_log.specs.declared.fault.LogFault.TheVariants as log
use Rattle.store_run.specs.declared.stop.Stop.{Stop}
use Rattle.store_run.specs.declared.stop.Stop.TheVariants.{LogFull, SourceFault, DiskFault, TooLong, NoMemory}

-- the stop that a fault of an append makes; an append has no others than these three
abbrev pub stop_of_log : LogFault → Stop
stop_of_log log.LogFull = LogFull
stop_of_log log.NoMemory = NoMemory
stop_of_log fault = DiskFault

-- the stop that a fault of the input makes
abbrev pub stop_of_input : TakeFault → Stop
stop_of_input taking.SourceFault = SourceFault
stop_of_input taking.TooLong = TooLong
stop_of_input taking.NoMemory = NoMemory

-- a stop that does not come from the source
abbrev pub IsOwnStop : Stop → Type 0
IsOwnStop SourceFault = ⊥
IsOwnStop TooLong = ⊥
IsOwnStop stop = Unit {0}
