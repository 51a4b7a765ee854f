use Rattle.std.proofs.Common.{sym, ap, subst, ◌∙◌}
use Rattle.edithub_main.specs.HubEnds.{HubMayEnd}
use Rattle.edithub_main.specs.HubOrders.{hub_reads_source, hub_uses_disk, hub_order_named}
use Rattle.edithub_main.specs.declared.words.HubOrder.TheVariants.{Init, Apply, Show, Verify, Pack, Undo, Add}
use Rattle.edithub_main.proofs.HubClauses.{not_none, at_order}
use Rattle.edithub_main.proofs.top.edithub.Goals as goal
use Rattle.store_run.specs.Devices.{devices_of}

-- ---- the order was read

pub returns-in-Some-clause-init : goal.returns-in-Some-clause-init
returns-in-Some-clause-init g c =
    λ e. at_order g.S.Source g.K.Sink g.D.Disk (devices_of c.args.source.now c.args.sink.now c.args.disk.now) (devices_of c.run_order.new.source c.run_order.new.sink c.run_order.new.disk)
    c.run_order.result c.in-Some.order Init (hub_order_named c.args.words.now) (sym c.in-Some.ensures) c.run_order.ensures.ends e

pub returns-in-Some-clause-apply : goal.returns-in-Some-clause-apply
returns-in-Some-clause-apply g c =
    λ e. at_order g.S.Source g.K.Sink g.D.Disk (devices_of c.args.source.now c.args.sink.now c.args.disk.now) (devices_of c.run_order.new.source c.run_order.new.sink c.run_order.new.disk)
    c.run_order.result c.in-Some.order Apply (hub_order_named c.args.words.now) (sym c.in-Some.ensures) c.run_order.ensures.ends e

pub returns-in-Some-clause-show : goal.returns-in-Some-clause-show
returns-in-Some-clause-show g c =
    λ e. at_order g.S.Source g.K.Sink g.D.Disk (devices_of c.args.source.now c.args.sink.now c.args.disk.now) (devices_of c.run_order.new.source c.run_order.new.sink c.run_order.new.disk)
    c.run_order.result c.in-Some.order Show (hub_order_named c.args.words.now) (sym c.in-Some.ensures) c.run_order.ensures.ends e

pub returns-in-Some-clause-verify : goal.returns-in-Some-clause-verify
returns-in-Some-clause-verify g c =
    λ e. at_order g.S.Source g.K.Sink g.D.Disk (devices_of c.args.source.now c.args.sink.now c.args.disk.now) (devices_of c.run_order.new.source c.run_order.new.sink c.run_order.new.disk)
    c.run_order.result c.in-Some.order Verify (hub_order_named c.args.words.now) (sym c.in-Some.ensures) c.run_order.ensures.ends e

pub returns-in-Some-clause-pack : goal.returns-in-Some-clause-pack
returns-in-Some-clause-pack g c =
    λ e. at_order g.S.Source g.K.Sink g.D.Disk (devices_of c.args.source.now c.args.sink.now c.args.disk.now) (devices_of c.run_order.new.source c.run_order.new.sink c.run_order.new.disk)
    c.run_order.result c.in-Some.order Pack (hub_order_named c.args.words.now) (sym c.in-Some.ensures) c.run_order.ensures.ends e

pub returns-in-Some-clause-undo : goal.returns-in-Some-clause-undo
returns-in-Some-clause-undo g c =
    λ count e. at_order g.S.Source g.K.Sink g.D.Disk (devices_of c.args.source.now c.args.sink.now c.args.disk.now) (devices_of c.run_order.new.source c.run_order.new.sink c.run_order.new.disk)
    c.run_order.result c.in-Some.order (Undo count) (hub_order_named c.args.words.now) (sym c.in-Some.ensures) c.run_order.ensures.ends e

pub returns-in-Some-clause-add : goal.returns-in-Some-clause-add
returns-in-Some-clause-add g c =
    λ e. at_order g.S.Source g.K.Sink g.D.Disk (devices_of c.args.source.now c.args.sink.now c.args.disk.now) (devices_of c.run_order.new.source c.run_order.new.sink c.run_order.new.disk)
    c.run_order.result c.in-Some.order Add (hub_order_named c.args.words.now) (sym c.in-Some.ensures) c.run_order.ensures.ends e

pub returns-in-Some-clause-usage : goal.returns-in-Some-clause-usage
returns-in-Some-clause-usage g c = λ e. absurd (not_none c.in-Some.order (hub_order_named c.args.words.now) (sym c.in-Some.ensures) e)

pub returns-in-Some-clause-statuses : goal.returns-in-Some-clause-statuses
returns-in-Some-clause-statuses g c = subst (λ q. HubMayEnd q c.run_order.result) c.in-Some.ensures c.run_order.ensures.statuses

pub returns-in-Some-clause-leaves : goal.returns-in-Some-clause-leaves
returns-in-Some-clause-leaves g c =
    let named = sym c.in-Some.ensures in
    record {
      unread = λ h. c.run_order.ensures.unread (ap hub_reads_source (sym named) ∙ h);
      untouched = λ h. c.run_order.ensures.untouched (ap hub_uses_disk (sym named) ∙ h);
    }

pub returns-in-Some-clause-causes : goal.returns-in-Some-clause-causes
returns-in-Some-clause-causes g c = record {
  source_fault = c.run_order.ensures.source_fault;
  sink_fault = c.run_order.ensures.sink_fault;
  disk_fault = c.run_order.ensures.disk_fault;
}
