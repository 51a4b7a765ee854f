use Rattle.std.proofs.Common.{sym, ap, subst, ◌∙◌}
use Rattle.command_words.specs.declared.orders.Order.TheVariants.{Run, Check, Gen, Init, Import, Apply, Show, Verify, Pack, Undo, Hub, Link}
use Rattle.editlens_main.specs.Commands.{reads_source, uses_disk, order_named}
use Rattle.store_run.specs.CountLines.{consistent_line}
use Rattle.store_session.specs.StoredStates.{changes_counted, state_text}
use Rattle.editlens_main.specs.Statuses.{MayEnd}
use Rattle.hub_run.proofs.FormsInStep.{accepted_in_step}
use Rattle.hub_run.specs.HubScript.{hub_script}
use Rattle.run_link.specs.RunsInTurns.{every_run as every_link}
use Rattle.run_link.specs.LinkScript.{link_script}
use Rattle.run_pair.specs.RunsInStep.{every_run, every_check}
use Rattle.run_pair.specs.Scripts.{pair_script, types_script}
use Rattle.editlens_main.proofs.OrderClauses.{not_none, at_order, never_script, never_gen, never_init, never_import, never_apply, never_pack, never_undo, never_view}
use Rattle.editlens_main.proofs.Statuses.{memory_may_end}
use Rattle.editlens_main.proofs.top.editlens.Goals as goal
use Rattle.store_run.specs.Devices.{devices_of}

-- ---- the order was read

pub returns-in-Ok-clause-run : goal.returns-in-Ok-clause-run
returns-in-Ok-clause-run g c =
    λ e. at_order g.S.Source g.K.Sink g.D.Disk (devices_of c.args.source.now c.args.sink.now c.args.disk.now) (devices_of c.run_order.new.source c.run_order.new.sink c.run_order.new.disk)
    c.run_order.result c.in-Ok.order Run (order_named c.args.words.now) c.in-Ok.ensures.order c.run_order.ensures.ends e

pub returns-in-Ok-clause-check : goal.returns-in-Ok-clause-check
returns-in-Ok-clause-check g c =
    λ e. at_order g.S.Source g.K.Sink g.D.Disk (devices_of c.args.source.now c.args.sink.now c.args.disk.now) (devices_of c.run_order.new.source c.run_order.new.sink c.run_order.new.disk)
    c.run_order.result c.in-Ok.order Check (order_named c.args.words.now) c.in-Ok.ensures.order c.run_order.ensures.ends e

pub returns-in-Ok-clause-generate : goal.returns-in-Ok-clause-generate
returns-in-Ok-clause-generate g c =
    λ count seed e. at_order g.S.Source g.K.Sink g.D.Disk (devices_of c.args.source.now c.args.sink.now c.args.disk.now) (devices_of c.run_order.new.source c.run_order.new.sink c.run_order.new.disk)
    c.run_order.result c.in-Ok.order (Gen count seed) (order_named c.args.words.now) c.in-Ok.ensures.order c.run_order.ensures.ends e

pub returns-in-Ok-clause-init : goal.returns-in-Ok-clause-init
returns-in-Ok-clause-init g c =
    λ e. at_order g.S.Source g.K.Sink g.D.Disk (devices_of c.args.source.now c.args.sink.now c.args.disk.now) (devices_of c.run_order.new.source c.run_order.new.sink c.run_order.new.disk)
    c.run_order.result c.in-Ok.order Init (order_named c.args.words.now) c.in-Ok.ensures.order c.run_order.ensures.ends e

pub returns-in-Ok-clause-import : goal.returns-in-Ok-clause-import
returns-in-Ok-clause-import g c =
    λ e. at_order g.S.Source g.K.Sink g.D.Disk (devices_of c.args.source.now c.args.sink.now c.args.disk.now) (devices_of c.run_order.new.source c.run_order.new.sink c.run_order.new.disk)
    c.run_order.result c.in-Ok.order Import (order_named c.args.words.now) c.in-Ok.ensures.order c.run_order.ensures.ends e

pub returns-in-Ok-clause-apply : goal.returns-in-Ok-clause-apply
returns-in-Ok-clause-apply g c =
    λ e. at_order g.S.Source g.K.Sink g.D.Disk (devices_of c.args.source.now c.args.sink.now c.args.disk.now) (devices_of c.run_order.new.source c.run_order.new.sink c.run_order.new.disk)
    c.run_order.result c.in-Ok.order Apply (order_named c.args.words.now) c.in-Ok.ensures.order c.run_order.ensures.ends e

pub returns-in-Ok-clause-show : goal.returns-in-Ok-clause-show
returns-in-Ok-clause-show g c =
    λ e. at_order g.S.Source g.K.Sink g.D.Disk (devices_of c.args.source.now c.args.sink.now c.args.disk.now) (devices_of c.run_order.new.source c.run_order.new.sink c.run_order.new.disk)
    c.run_order.result c.in-Ok.order Show (order_named c.args.words.now) c.in-Ok.ensures.order c.run_order.ensures.ends e

pub returns-in-Ok-clause-verify : goal.returns-in-Ok-clause-verify
returns-in-Ok-clause-verify g c =
    λ e. at_order g.S.Source g.K.Sink g.D.Disk (devices_of c.args.source.now c.args.sink.now c.args.disk.now) (devices_of c.run_order.new.source c.run_order.new.sink c.run_order.new.disk)
    c.run_order.result c.in-Ok.order Verify (order_named c.args.words.now) c.in-Ok.ensures.order c.run_order.ensures.ends e

pub returns-in-Ok-clause-pack : goal.returns-in-Ok-clause-pack
returns-in-Ok-clause-pack g c =
    λ e. at_order g.S.Source g.K.Sink g.D.Disk (devices_of c.args.source.now c.args.sink.now c.args.disk.now) (devices_of c.run_order.new.source c.run_order.new.sink c.run_order.new.disk)
    c.run_order.result c.in-Ok.order Pack (order_named c.args.words.now) c.in-Ok.ensures.order c.run_order.ensures.ends e

pub returns-in-Ok-clause-undo : goal.returns-in-Ok-clause-undo
returns-in-Ok-clause-undo g c =
    λ count e. at_order g.S.Source g.K.Sink g.D.Disk (devices_of c.args.source.now c.args.sink.now c.args.disk.now) (devices_of c.run_order.new.source c.run_order.new.sink c.run_order.new.disk)
    c.run_order.result c.in-Ok.order (Undo count) (order_named c.args.words.now) c.in-Ok.ensures.order c.run_order.ensures.ends e

pub returns-in-Ok-clause-hub : goal.returns-in-Ok-clause-hub
returns-in-Ok-clause-hub g c =
    λ e. at_order g.S.Source g.K.Sink g.D.Disk (devices_of c.args.source.now c.args.sink.now c.args.disk.now) (devices_of c.run_order.new.source c.run_order.new.sink c.run_order.new.disk)
    c.run_order.result c.in-Ok.order Hub (order_named c.args.words.now) c.in-Ok.ensures.order c.run_order.ensures.ends e

pub returns-in-Ok-clause-link : goal.returns-in-Ok-clause-link
returns-in-Ok-clause-link g c =
    λ e. at_order g.S.Source g.K.Sink g.D.Disk (devices_of c.args.source.now c.args.sink.now c.args.disk.now) (devices_of c.run_order.new.source c.run_order.new.sink c.run_order.new.disk)
    c.run_order.result c.in-Ok.order Link (order_named c.args.words.now) c.in-Ok.ensures.order c.run_order.ensures.ends e

pub returns-in-Ok-clause-usage : goal.returns-in-Ok-clause-usage
returns-in-Ok-clause-usage g c = λ e. absurd (not_none c.in-Ok.order (order_named c.args.words.now) c.in-Ok.ensures.order e)

pub returns-in-Ok-clause-statuses : goal.returns-in-Ok-clause-statuses
returns-in-Ok-clause-statuses g c = subst (λ q. MayEnd q c.run_order.result) (sym c.in-Ok.ensures.order) c.run_order.ensures.statuses

pub returns-in-Ok-clause-leaves : goal.returns-in-Ok-clause-leaves
returns-in-Ok-clause-leaves g c = record {
  unread = λ h. c.run_order.ensures.unread (ap reads_source (sym c.in-Ok.ensures.order) ∙ h);
  untouched = λ h. c.run_order.ensures.untouched (ap uses_disk (sym c.in-Ok.ensures.order) ∙ h);
}

pub returns-in-Ok-clause-causes : goal.returns-in-Ok-clause-causes
returns-in-Ok-clause-causes g c = record {
  source_fault = c.run_order.ensures.source_fault;
  sink_fault = c.run_order.ensures.sink_fault;
  disk_fault = c.run_order.ensures.disk_fault;
}

-- ---- memory ran out at the words

pub returns-in-Err-NoMemory-clause-run : goal.returns-in-Err-NoMemory-clause-run
returns-in-Err-NoMemory-clause-run g c = λ e. never_script g.S.Source g.K.Sink (c.args.source.now, c.args.sink.now) pair_script every_run

pub returns-in-Err-NoMemory-clause-check : goal.returns-in-Err-NoMemory-clause-check
returns-in-Err-NoMemory-clause-check g c = λ e. never_script g.S.Source g.K.Sink (c.args.source.now, c.args.sink.now) types_script every_check

pub returns-in-Err-NoMemory-clause-generate : goal.returns-in-Err-NoMemory-clause-generate
returns-in-Err-NoMemory-clause-generate g c = λ count seed e. never_gen g.K.Sink c.args.sink.now count seed

pub returns-in-Err-NoMemory-clause-init : goal.returns-in-Err-NoMemory-clause-init
returns-in-Err-NoMemory-clause-init g c = λ e. never_init g.S.Source g.K.Sink g.D.Disk (devices_of c.args.source.now c.args.sink.now c.args.disk.now)

pub returns-in-Err-NoMemory-clause-import : goal.returns-in-Err-NoMemory-clause-import
returns-in-Err-NoMemory-clause-import g c = λ e. never_import g.S.Source g.K.Sink g.D.Disk (devices_of c.args.source.now c.args.sink.now c.args.disk.now)

pub returns-in-Err-NoMemory-clause-apply : goal.returns-in-Err-NoMemory-clause-apply
returns-in-Err-NoMemory-clause-apply g c = λ e. never_apply g.S.Source g.K.Sink g.D.Disk (devices_of c.args.source.now c.args.sink.now c.args.disk.now)

pub returns-in-Err-NoMemory-clause-show : goal.returns-in-Err-NoMemory-clause-show
returns-in-Err-NoMemory-clause-show g c = λ e. never_view g.K.Sink g.D.Disk (c.args.sink.now, c.args.disk.now) g.met.D.Disk.only_now (λ state payloads. state_text state)

pub returns-in-Err-NoMemory-clause-verify : goal.returns-in-Err-NoMemory-clause-verify
returns-in-Err-NoMemory-clause-verify g c = λ e. never_view g.K.Sink g.D.Disk (c.args.sink.now, c.args.disk.now) g.met.D.Disk.only_now (λ state payloads. consistent_line (changes_counted payloads))

pub returns-in-Err-NoMemory-clause-pack : goal.returns-in-Err-NoMemory-clause-pack
returns-in-Err-NoMemory-clause-pack g c = λ e. never_pack g.K.Sink g.D.Disk (c.args.sink.now, c.args.disk.now)

pub returns-in-Err-NoMemory-clause-undo : goal.returns-in-Err-NoMemory-clause-undo
returns-in-Err-NoMemory-clause-undo g c = λ count e. never_undo g.K.Sink g.D.Disk (c.args.sink.now, c.args.disk.now) count

pub returns-in-Err-NoMemory-clause-hub : goal.returns-in-Err-NoMemory-clause-hub
returns-in-Err-NoMemory-clause-hub g c = λ e. never_script g.S.Source g.K.Sink (c.args.source.now, c.args.sink.now) hub_script accepted_in_step

pub returns-in-Err-NoMemory-clause-link : goal.returns-in-Err-NoMemory-clause-link
returns-in-Err-NoMemory-clause-link g c = λ e. never_script g.S.Source g.K.Sink (c.args.source.now, c.args.sink.now) link_script every_link

pub returns-in-Err-NoMemory-clause-statuses : goal.returns-in-Err-NoMemory-clause-statuses
returns-in-Err-NoMemory-clause-statuses g c = memory_may_end (order_named c.args.words.now)
