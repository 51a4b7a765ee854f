-- What `add` promises. What it takes, writes and stores at each status is defined in hub_add. Read it from the end:
-- `HubAdds`, then `AddsOn`.
use Rattle.std.specs.Prelude.{◌≡◌, ◌⊎◌}
use Rattle.lens_io.specs.Calls.{IsUnasked, SourceFailed, SinkFailed, DiskFailed}
use Rattle.lens_io.specs.declared.disk.Disk as OfDisk
use Rattle.lens_io.specs.declared.sink.Sink as OfSink
use Rattle.lens_io.specs.declared.source.Source as OfSource
use Rattle.store_run.specs.Devices.{Devices}
use Rattle.store_run.specs.ApplyCall.{IsUnopened}
use Rattle.store_run.specs.Refusals.{RefusesStore}
use Rattle.store_run.specs.Rooms.{TakesTooMany, most_bytes}
use Rattle.hub_add.specs.AddCall.{AddEnds, AddsView, EndsWhole, IsAddCause, IsSafeAdd, RefusesViewAtOnce}
use Rattle.hub_add.specs.AddCall.{ViewHasNoRoom}
use Rattle.edithub_main.specs.HubStores.{HubStore, RefusedHub, IsHubStateInStep}
use Rattle.command_ends.specs.declared.status.Status.{Status}
use Rattle.command_ends.specs.declared.status.Status.TheVariants.{Done, DiskFault}

module _ {S K D : Type 0} (source : OfSource.Ghosts S) (sink : OfSink.Ghosts K) (disk : OfDisk.Ghosts D)
    (old new : Devices S K D) (status : Status) where
  -- over the store of a hub
  pub record AddsOn (store : HubStore disk old.disk) : Type 0 where
    -- at its end the store represents the hub with one view more, which is in step, and its state lines were written
    pub continues : status ≡ Done → AddsView source sink disk (old.source, old.sink) new store.payloads store.state
    -- each view is in its lens's consistency relation with the hub
    pub in_step : IsHubStateInStep store.state
    -- what was taken, written and stored at every status
    pub stops : AddEnds source sink disk old new store.payloads store.state status
    -- A program part that is whole and refused is refused, whatever comes after it, unless the sink failed or memory
    -- ran out. Then at most the rest of the call of the source that ended its separator was read; where no separator
    -- came, the source is at its end.
    pub at_once : RefusesViewAtOnce source old.source new.source store.state status
    -- An image of a crash represents the hub from before the call or the one with one view more. One of an earlier
    -- moment of the call may also have been possible before it. If the sync of the opening failed, nothing has changed.
    pub survives : (status ≡ DiskFault) × IsUnopened source sink disk old new
        ⊎ IsSafeAdd disk old.disk new.disk store.payloads store.state
    -- after StoreRefused the log had no room for the payload, and after DiskFault the disk had none if its room is
    -- known
    pub caused : IsAddCause source disk (old.source, old.disk) (new.source, new.disk) store.payloads store.state status
    -- it comes to its end, or refuses the program part, or memory runs out, if no device fails, not too many bytes are
    -- taken and the log has room
    pub completes : (SourceFailed source old.source new.source → ⊥) → (SinkFailed sink old.sink new.sink → ⊥)
        → (DiskFailed disk old.disk new.disk → ⊥)
        → (TakesTooMany source old.source new.source → ⊥)
        → (ViewHasNoRoom source old.source new.source store.payloads store.state most_bytes → ⊥)
        → EndsWhole status

  pub record HubAdds : Type 0 where
    pub of_store : (store : HubStore disk old.disk) → AddsOn store
    -- over bytes that are no store of a hub the line `store refused: REASON` was written, unless a device failed or
    -- memory ran out; nothing is written to the disk, and the source is not called
    pub refuses : (other : RefusedHub disk old.disk)
        → RefusesStore sink disk (old.sink, old.disk) (new.sink, new.disk) status other.reason
        × IsUnasked source old.source new.source
