-- What holds of each command, from what holds of the order that was read.
use Rattle.std.proofs.Common.{◌≡◌, true, false, true≢false, Option, Some, None, sym, ap, subst, ◌∙◌}
use Rattle.std.proofs.lemmas.Option.{same_Some}
use Rattle.command_ends.specs.declared.status.Status.{Status}
use Rattle.lens_io.specs.declared.disk.Disk as OfDisk
use Rattle.lens_io.specs.declared.sink.Sink as OfSink
use Rattle.lens_io.specs.declared.source.Source as OfSource
use Rattle.edithub_main.specs.HubEnds.{EndsHubOrder}
use Rattle.edithub_main.specs.HubOrders.{hub_reads_source, hub_uses_disk}
use Rattle.edithub_main.specs.declared.words.HubOrder.{HubOrder}
use Rattle.store_run.specs.Devices.{Devices}

pub not_reading : (o p : HubOrder) → o ≡ p → hub_reads_source (Some p) ≡ true → hub_reads_source (Some o) ≡ false → ⊥
not_reading o p e reads not = true≢false (sym (ap (λ x. hub_reads_source (Some x)) e ∙ reads) ∙ not)

pub not_diskless : (o p : HubOrder) → o ≡ p → hub_uses_disk (Some p) ≡ true → hub_uses_disk (Some o) ≡ false → ⊥
not_diskless o p e uses not = true≢false (sym (ap (λ x. hub_uses_disk (Some x)) e ∙ uses) ∙ not)

pub not_none : (o : HubOrder) (q : Option HubOrder) → q ≡ Some o → q ≡ None → ⊥
not_none o q named e = let never : Some o ≡ None = sym named ∙ e in cc

module _ {S K D : Type 0} (source : OfSource.Ghosts S) (sink : OfSink.Ghosts K) (disk : OfDisk.Ghosts D) (old new : Devices S K D) (status : Status) where
  -- the order that the words give is the one that was read
  pub at_order : (o p : HubOrder) (q : Option HubOrder) → q ≡ Some o → EndsHubOrder source sink disk old new status o → q ≡ Some p → EndsHubOrder source sink disk old new status p
  at_order o p q named ends e = subst (EndsHubOrder source sink disk old new status) (same_Some o p (sym named ∙ e)) ends
