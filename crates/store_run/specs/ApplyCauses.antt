-- The causes of a stop: a fault of the sink or of the disk comes only if that device has failed.
use Rattle.std.specs.Prelude.{◌≤◌, Option, Some, None, Result, Ok, Err}
use Rattle.lens_io.specs.Calls.{SinkFailed, DiskFailed}
use Rattle.lens_io.specs.declared.sink.Sink as OfSink
use Rattle.lens_io.specs.declared.disk.Disk as OfDisk
use Rattle.store_run.specs.declared.stop.Stop.{Stop}
use Rattle.store_run.specs.declared.stop.Stop.TheVariants.{SinkFault, DiskFault}

-- the stop of an outcome, if it is one
abbrev pub stop_in : {T : Type 0} → Result T Stop → Option Stop
stop_in (Ok value) = None
stop_in (Err stop) = Some stop

module _ {K D : Type 0} (sink : OfSink.Ghosts K) (disk : OfDisk.Ghosts D) (old new : K × D) where
  -- a fault of the sink, or of the disk, comes only if that device failed
  abbrev pub IsCaused : Option Stop → Type 0
  IsCaused (Some SinkFault) = SinkFailed sink old.0 new.0
  IsCaused (Some DiskFault) = DiskFailed disk old.1 new.1
  IsCaused stop = Unit {0}

  -- the counts have not decreased, and a stop has its cause
  pub record Counted (stop : Option Stop) : Type 0 where
    pub sink_faults : sink.faults old.0 ≤ sink.faults new.0
    pub empty_takes : sink.empty_takes old.0 ≤ sink.empty_takes new.0
    pub disk_faults : disk.faults old.1 ≤ disk.faults new.1
    pub cause : IsCaused stop
