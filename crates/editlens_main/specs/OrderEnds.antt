-- What each command promises: a line for each.
use Rattle.command_words.specs.declared.orders.Order.{Order}
use Rattle.command_words.specs.declared.orders.Order.TheVariants as order
use Rattle.lens_io.specs.declared.disk.Disk as OfDisk
use Rattle.lens_io.specs.declared.sink.Sink as OfSink
use Rattle.lens_io.specs.declared.source.Source as OfSource
use Rattle.editlens_main.specs.Generates.{Generates}
use Rattle.editlens_main.specs.ImportsStore.{ImportsStore}
use Rattle.editlens_main.specs.MakesStore.{MakesStore}
use Rattle.editlens_main.specs.Runs.{Runs, Checks, RunsHub, RunsLink}
use Rattle.editlens_main.specs.Stores.{AppliesPair, ShowsPair, VerifiesPair, PacksPair, UndoesPair}
use Rattle.command_ends.specs.declared.status.Status.{Status}
use Rattle.store_run.specs.Devices.{Devices}

module _ {S K D : Type 0} (source : OfSource.Ghosts S) (sink : OfSink.Ghosts K) (disk : OfDisk.Ghosts D)
    (old new : Devices S K D) (status : Status) where
  abbrev pub EndsOrder : Order → Type 0
  EndsOrder order.Run = Runs source sink (old.source, old.sink) (new.source, new.sink) status
  EndsOrder order.Check = Checks source sink (old.source, old.sink) (new.source, new.sink) status
  EndsOrder (order.Gen count seed) = Generates count seed sink old.sink new.sink status
  EndsOrder order.Init = MakesStore source sink disk old new status
  EndsOrder order.Import = ImportsStore source sink disk old new status
  EndsOrder order.Apply = AppliesPair source sink disk old new status
  EndsOrder order.Show = ShowsPair sink disk (old.sink, old.disk) (new.sink, new.disk) status
  EndsOrder order.Verify = VerifiesPair sink disk (old.sink, old.disk) (new.sink, new.disk) status
  EndsOrder order.Pack = PacksPair sink disk (old.sink, old.disk) (new.sink, new.disk) status
  EndsOrder (order.Undo count) = UndoesPair sink disk (old.sink, old.disk) (new.sink, new.disk) status count
  EndsOrder order.Hub = RunsHub source sink (old.source, old.sink) (new.source, new.sink) status
  EndsOrder order.Link = RunsLink source sink (old.source, old.sink) (new.source, new.sink) status
