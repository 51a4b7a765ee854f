use Rattle.std.proofs.Common.{inl, inr, true≢false, Some, refl, ap}
use Rattle.hub_run.specs.HubScript.{hub_script}
use Rattle.lens_io.specs.contracts.mem_sink.SureSinkSink.TheImpl.{ghosts as sure_sink}
use Rattle.lens_io.specs.contracts.mem_source.SureSourceSource.TheImpl.{ghosts as sure_source}
use Rattle.lens_io.specs.contracts.sure_disk.SureDiskDisk.TheImpl.{ghosts as sure_disk}
use Rattle.run_link.specs.LinkScript.{link_script}
use Rattle.run_pair.specs.Scripts.{pair_script, types_script}
use Rattle.store_new.proofs.ImportEnds as imported
use Rattle.store_new.specs.Import.{import_command}
use Rattle.store_new.proofs.InitEnds.{accepts, refuses}
use Rattle.store_new.specs.Init.{init_command}
use Rattle.editlens_main.specs.Commands.{order_named}
use Rattle.store_run.specs.CountLines.{consistent_line}
use Rattle.store_session.specs.StoredStates.{changes_counted, state_text}
use Rattle.editlens_main.proofs.Statuses.{only_usage, never_disk}
use Rattle.editlens_main.proofs.SureEnds.{never, by_room, apply_in_room, pack_in_room, undo_in_room, view_in_room, refused_in_room, made_in_room, script_in_room}
use Rattle.editlens_main.proofs.sure.run_sure.Goals as goal
use Rattle.store_run.specs.Devices.{devices_of}

pub returns-clause-no_source_fault : goal.returns-clause-no_source_fault
returns-clause-no_source_fault c = λ e. never (c.editlens.ensures.causes.source_fault e)

pub returns-clause-sink_fault : goal.returns-clause-sink_fault
returns-clause-sink_fault c = λ e. by_room (c.editlens.ensures.causes.sink_fault e)

pub returns-clause-no_usage : goal.returns-clause-no_usage
returns-clause-no_usage c = λ e. only_usage (order_named c.args.words.now) c.editlens.result c.editlens.ensures.statuses e

pub returns-clause-no_disk_fault : goal.returns-clause-no_disk_fault
returns-clause-no_disk_fault c = λ h. elim h [
  | inl e ↦ λ f. never_disk (order_named c.args.words.now) c.editlens.result c.editlens.ensures.statuses e f
  | inr (inl e) ↦ λ f. true≢false ((c.editlens.ensures.show e).caused f)
  | inr (inr e) ↦ λ f. true≢false ((c.editlens.ensures.verify e).caused f)
]

pub returns-clause-run_sure : goal.returns-clause-run_sure
returns-clause-run_sure c = λ e few.
    script_in_room c.editlens.result _ (λ f. never (c.editlens.ensures.causes.source_fault f)) (λ f. by_room (c.editlens.ensures.causes.sink_fault f))
    pair_script sure_source sure_sink (c.args.source.now, c.args.sink.now) (c.editlens.new.source, c.editlens.new.sink) c.args.source.now.left refl few (c.editlens.ensures.run e).reports (c.editlens.ensures.run e).stops

pub returns-clause-check_sure : goal.returns-clause-check_sure
returns-clause-check_sure c = λ e few.
    script_in_room c.editlens.result _ (λ f. never (c.editlens.ensures.causes.source_fault f)) (λ f. by_room (c.editlens.ensures.causes.sink_fault f))
    types_script sure_source sure_sink (c.args.source.now, c.args.sink.now) (c.editlens.new.source, c.editlens.new.sink) c.args.source.now.left refl few (c.editlens.ensures.check e).reports (c.editlens.ensures.check e).stops

pub returns-clause-run_reports : goal.returns-clause-run_reports
returns-clause-run_reports c = λ e. (c.editlens.ensures.run e).reports

pub returns-clause-check_types : goal.returns-clause-check_types
returns-clause-check_types c = λ e. (c.editlens.ensures.check e).reports

pub returns-clause-hub_sure : goal.returns-clause-hub_sure
returns-clause-hub_sure c = λ e few.
    script_in_room c.editlens.result _ (λ f. never (c.editlens.ensures.causes.source_fault f)) (λ f. by_room (c.editlens.ensures.causes.sink_fault f))
    hub_script sure_source sure_sink (c.args.source.now, c.args.sink.now) (c.editlens.new.source, c.editlens.new.sink) c.args.source.now.left refl few (c.editlens.ensures.hub e).reports (c.editlens.ensures.hub e).stops

pub returns-clause-link_sure : goal.returns-clause-link_sure
returns-clause-link_sure c = λ e few.
    script_in_room c.editlens.result _ (λ f. never (c.editlens.ensures.causes.source_fault f)) (λ f. by_room (c.editlens.ensures.causes.sink_fault f))
    link_script sure_source sure_sink (c.args.source.now, c.args.sink.now) (c.editlens.new.source, c.editlens.new.sink) c.args.source.now.left refl few (c.editlens.ensures.link e).reports (c.editlens.ensures.link e).stops

pub returns-clause-init_sure : goal.returns-clause-init_sure
returns-clause-init_sure c = λ e empty few.
    made_in_room c.editlens.result _ (λ f. never (c.editlens.ensures.causes.source_fault f)) (λ f. by_room (c.editlens.ensures.causes.sink_fault f))
    sure_source sure_sink sure_disk init_command accepts refuses (devices_of c.args.source.now c.args.sink.now c.args.disk.now) (devices_of c.editlens.new.source c.editlens.new.sink c.editlens.new.disk) c.args.source.now.left refl (ap Some empty) few _ (c.editlens.ensures.init e).caused (c.editlens.ensures.init e).stops

pub returns-clause-import_sure : goal.returns-clause-import_sure
returns-clause-import_sure c = λ e empty few.
    made_in_room c.editlens.result _ (λ f. never (c.editlens.ensures.causes.source_fault f)) (λ f. by_room (c.editlens.ensures.causes.sink_fault f))
    sure_source sure_sink sure_disk import_command imported.accepts imported.refuses (devices_of c.args.source.now c.args.sink.now c.args.disk.now) (devices_of c.editlens.new.source c.editlens.new.sink c.editlens.new.disk) c.args.source.now.left refl (ap Some empty) few _ (c.editlens.ensures.import e).caused (c.editlens.ensures.import e).stops

pub returns-clause-views_sure : goal.returns-clause-views_sure
returns-clause-views_sure c = λ h store. elim h [
  | inl e ↦ view_in_room c.editlens.result _ (λ f. never (c.editlens.ensures.causes.source_fault f)) (λ f. by_room (c.editlens.ensures.causes.sink_fault f)) sure_sink c.args.sink.now c.editlens.new.sink (state_text store.state) (λ f. true≢false ((c.editlens.ensures.show e).caused f)) ((c.editlens.ensures.show e).reports store)
  | inr e ↦ view_in_room c.editlens.result _ (λ f. never (c.editlens.ensures.causes.source_fault f)) (λ f. by_room (c.editlens.ensures.causes.sink_fault f)) sure_sink c.args.sink.now c.editlens.new.sink (consistent_line (changes_counted store.payloads)) (λ f. true≢false ((c.editlens.ensures.verify e).caused f)) ((c.editlens.ensures.verify e).reports store)
]

pub returns-clause-refused_sure : goal.returns-clause-refused_sure
returns-clause-refused_sure c = λ h other.
    let in_room = refused_in_room c.editlens.result _ (λ f. never (c.editlens.ensures.causes.source_fault f)) (λ f. by_room (c.editlens.ensures.causes.sink_fault f)) sure_sink sure_disk (c.args.sink.now, c.args.disk.now) (c.editlens.new.sink, c.editlens.new.disk) (λ none. true≢false none) other.reason in
    elim h [
      | inl e ↦ in_room ((c.editlens.ensures.apply e).refuses other).0.1
      | inr (inl e) ↦ in_room ((c.editlens.ensures.pack e).refuses other).1
      | inr (inr (inl e)) ↦ in_room ((c.editlens.ensures.show e).refuses other).1
      | inr (inr (inr e)) ↦ in_room ((c.editlens.ensures.verify e).refuses other).1
    ]

pub returns-clause-undo_refused_sure : goal.returns-clause-undo_refused_sure
returns-clause-undo_refused_sure c = λ count e other.
    refused_in_room c.editlens.result _ (λ f. never (c.editlens.ensures.causes.source_fault f)) (λ f. by_room (c.editlens.ensures.causes.sink_fault f)) sure_sink sure_disk (c.args.sink.now, c.args.disk.now) (c.editlens.new.sink, c.editlens.new.disk) (λ none. true≢false none) other.reason ((c.editlens.ensures.undo count e).refuses other).1

pub returns-clause-apply_sure : goal.returns-clause-apply_sure
returns-clause-apply_sure c = λ e few store.
    apply_in_room c.editlens.result _ (λ f. never (c.editlens.ensures.causes.source_fault f)) (λ f. by_room (c.editlens.ensures.causes.sink_fault f))
    sure_source c.args.source.now c.editlens.new.source c.args.source.now.left refl few c.args.disk.now.room store.payloads store.state store.version ((c.editlens.ensures.apply e).of_store store).caused

pub returns-clause-pack_sure : goal.returns-clause-pack_sure
returns-clause-pack_sure c = λ e store.
    pack_in_room c.editlens.result _ (λ f. never (c.editlens.ensures.causes.source_fault f)) (λ f. by_room (c.editlens.ensures.causes.sink_fault f))
    c.args.disk.now.room store.payloads store.state store.version ((c.editlens.ensures.pack e).of_store store).caused

pub returns-clause-undo_sure : goal.returns-clause-undo_sure
returns-clause-undo_sure c = λ count e store.
    undo_in_room c.editlens.result _ (λ f. never (c.editlens.ensures.causes.source_fault f)) (λ f. by_room (c.editlens.ensures.causes.sink_fault f))
    c.args.disk.now.room store.payloads store.undone ((c.editlens.ensures.undo count e).of_store store).caused
