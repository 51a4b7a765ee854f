-- What each command promises, a line for each; how each may end; and what holds of every call, whatever its words.
use Rattle.std.specs.Prelude.{◌≡◌, ◌⊎◌, List, [], ◌∷◌, false, Option, Some, None}
use Rattle.command_ends.specs.Statuses.{IsStatusAmong, apply_statuses, init_statuses, quiet_statuses}
use Rattle.command_ends.specs.declared.status.Status.{Status}
use Rattle.command_ends.specs.declared.status.Status.TheVariants.{Usage, SinkFault}
use Rattle.lens_io.specs.Calls.{Gave, GaveFront}
use Rattle.lens_io.specs.declared.disk.Disk as OfDisk
use Rattle.lens_io.specs.declared.sink.Sink as OfSink
use Rattle.lens_io.specs.declared.source.Source as OfSource
use Rattle.edithub_main.specs.HubAdds.{HubAdds}
use Rattle.edithub_main.specs.HubOrders.{hub_reads_source, hub_uses_disk, hub_usage_line}
use Rattle.edithub_main.specs.HubStores.{AppliesHub, ShowsHub, VerifiesHub, PacksHub, UndoesHub}
use Rattle.edithub_main.specs.MakesHub.{MakesHub}
use Rattle.edithub_main.specs.declared.words.HubOrder.{HubOrder}
use Rattle.edithub_main.specs.declared.words.HubOrder.TheVariants as order
use Rattle.store_run.specs.Devices.{Devices}

module _ {S K D : Type 0} (source : OfSource.Ghosts S) (sink : OfSink.Ghosts K) (disk : OfDisk.Ghosts D)
    (old new : Devices S K D) (status : Status) where
  abbrev pub EndsHubOrder : HubOrder → Type 0
  EndsHubOrder order.Init = MakesHub source sink disk old new status
  EndsHubOrder order.Apply = AppliesHub source sink disk old new status
  EndsHubOrder order.Show = ShowsHub sink disk (old.sink, old.disk) (new.sink, new.disk) status
  EndsHubOrder order.Verify = VerifiesHub sink disk (old.sink, old.disk) (new.sink, new.disk) status
  EndsHubOrder order.Pack = PacksHub sink disk (old.sink, old.disk) (new.sink, new.disk) status
  EndsHubOrder (order.Undo count) = UndoesHub sink disk (old.sink, old.disk) (new.sink, new.disk) status count
  EndsHubOrder order.Add = HubAdds source sink disk old new status

-- the statuses of a command; and of words that name none
abbrev pub hub_statuses_of : Option HubOrder → List Status
hub_statuses_of None = Usage ∷ SinkFault ∷ []
hub_statuses_of (Some order.Init) = init_statuses
hub_statuses_of (Some order.Apply) = apply_statuses
hub_statuses_of (Some order.Show) = quiet_statuses
hub_statuses_of (Some order.Verify) = quiet_statuses
hub_statuses_of (Some order.Pack) = quiet_statuses
hub_statuses_of (Some (order.Undo count)) = quiet_statuses
hub_statuses_of (Some order.Add) = init_statuses

abbrev pub HubMayEnd : Option HubOrder → Status → Type 0
HubMayEnd o status = IsStatusAmong (hub_statuses_of o) status

-- the usage line was written, or a beginning of it and the sink failed
abbrev pub GivesHubUsage : {K : Type 0} → OfSink.Ghosts K → K → K → Status → Type 0
GivesHubUsage sink old new status =
    (status ≡ Usage) × Gave sink old new hub_usage_line ⊎ (status ≡ SinkFault) × GaveFront sink old new hub_usage_line

-- a source and a disk that the command does not use are as they were
pub record HubLeavesAlone {S D : Type 0} (o : Option HubOrder) (old new : S × D) : Type 0 where
  pub unread : hub_reads_source o ≡ false → new.0 ≡ old.0
  pub untouched : hub_uses_disk o ≡ false → new.1 ≡ old.1
