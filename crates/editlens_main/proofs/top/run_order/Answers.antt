use Rattle.std.proofs.Common.{Some, sym, subst, refl}
use Rattle.command_ends.proofs.AmongStatuses.{quiet_reads_nothing}
use Rattle.command_words.specs.Orders.{HasFewEntries}
use Rattle.command_words.specs.declared.orders.Order.TheVariants.{Run, Check, Init, Import, Apply, Show, Verify, Pack, Undo, Hub, Link}
use Rattle.editlens_main.specs.OrderEnds.{EndsOrder}
use Rattle.editlens_main.specs.Statuses.{MayEnd}
use Rattle.editlens_main.proofs.OrderClauses.{not_reading, not_diskless}
use Rattle.editlens_main.proofs.Statuses.{gen_reads_nothing, script_stores_nothing, gen_stores_nothing}
use Rattle.editlens_main.proofs.top.run_order.Goals as goal
use Rattle.store_run.specs.Devices.{devices_of}

pub returns-in-Run-clause-ends : goal.returns-in-Run-clause-ends
returns-in-Run-clause-ends g c =
    subst (EndsOrder g.S.Source g.K.Sink g.D.Disk (devices_of c.args.source.now c.args.sink.now c.args.disk.now) (devices_of c.run_pair_script.new.source c.run_pair_script.new.sink c.args.disk.now) c.run_pair_script.result)
    (sym c.in-Run.is) c.run_pair_script.ensures.runs

pub returns-in-Run-clause-statuses : goal.returns-in-Run-clause-statuses
returns-in-Run-clause-statuses g c = subst (λ o. MayEnd (Some o) c.run_pair_script.result) (sym c.in-Run.is) c.run_pair_script.ensures.statuses

pub returns-in-Run-clause-unread : goal.returns-in-Run-clause-unread
returns-in-Run-clause-unread g c = λ h. absurd (not_reading c.args.order Run c.in-Run.is refl h)

pub returns-in-Run-clause-disk_fault : goal.returns-in-Run-clause-disk_fault
returns-in-Run-clause-disk_fault g c = λ e. absurd (script_stores_nothing c.run_pair_script.result c.run_pair_script.ensures.statuses e)

pub returns-in-Check-clause-ends : goal.returns-in-Check-clause-ends
returns-in-Check-clause-ends g c =
    subst (EndsOrder g.S.Source g.K.Sink g.D.Disk (devices_of c.args.source.now c.args.sink.now c.args.disk.now) (devices_of c.check_script.new.source c.check_script.new.sink c.args.disk.now) c.check_script.result)
    (sym c.in-Check.is) c.check_script.ensures.runs

pub returns-in-Check-clause-statuses : goal.returns-in-Check-clause-statuses
returns-in-Check-clause-statuses g c = subst (λ o. MayEnd (Some o) c.check_script.result) (sym c.in-Check.is) c.check_script.ensures.statuses

pub returns-in-Check-clause-unread : goal.returns-in-Check-clause-unread
returns-in-Check-clause-unread g c = λ h. absurd (not_reading c.args.order Check c.in-Check.is refl h)

pub returns-in-Check-clause-disk_fault : goal.returns-in-Check-clause-disk_fault
returns-in-Check-clause-disk_fault g c = λ e. absurd (script_stores_nothing c.check_script.result c.check_script.ensures.statuses e)

pub returns-in-Gen-clause-ends : goal.returns-in-Gen-clause-ends
returns-in-Gen-clause-ends g c =
    subst (EndsOrder g.S.Source g.K.Sink g.D.Disk (devices_of c.args.source.now c.args.sink.now c.args.disk.now) (devices_of c.args.source.now c.run_generated.new.sink c.args.disk.now) c.run_generated.result)
    (sym c.in-Gen.is) (record { reports = c.run_generated.ensures.written; completes = c.run_generated.ensures.complete })

pub returns-in-Gen-clause-statuses : goal.returns-in-Gen-clause-statuses
returns-in-Gen-clause-statuses g c = subst (λ o. MayEnd (Some o) c.run_generated.result) (sym c.in-Gen.is) c.run_generated.ensures.statuses

pub returns-in-Gen-clause-source_fault : goal.returns-in-Gen-clause-source_fault
returns-in-Gen-clause-source_fault g c = λ e. absurd (gen_reads_nothing c.run_generated.result c.run_generated.ensures.statuses e)

pub returns-in-Gen-clause-disk_fault : goal.returns-in-Gen-clause-disk_fault
returns-in-Gen-clause-disk_fault g c = λ e. absurd (gen_stores_nothing c.run_generated.result c.run_generated.ensures.statuses e)

pub returns-in-Init-clause-ends : goal.returns-in-Init-clause-ends
returns-in-Init-clause-ends g c =
    subst (EndsOrder g.S.Source g.K.Sink g.D.Disk (devices_of c.args.source.now c.args.sink.now c.args.disk.now) (devices_of c.run_init.new.source c.run_init.new.sink c.run_init.new.disk) c.run_init.result)
    (sym c.in-Init.is) c.run_init.ensures.makes

pub returns-in-Init-clause-statuses : goal.returns-in-Init-clause-statuses
returns-in-Init-clause-statuses g c = subst (λ o. MayEnd (Some o) c.run_init.result) (sym c.in-Init.is) c.run_init.ensures.statuses

pub returns-in-Init-clause-unread : goal.returns-in-Init-clause-unread
returns-in-Init-clause-unread g c = λ h. absurd (not_reading c.args.order Init c.in-Init.is refl h)

pub returns-in-Init-clause-untouched : goal.returns-in-Init-clause-untouched
returns-in-Init-clause-untouched g c = λ h. absurd (not_diskless c.args.order Init c.in-Init.is refl h)

pub returns-in-Import-clause-ends : goal.returns-in-Import-clause-ends
returns-in-Import-clause-ends g c =
    subst (EndsOrder g.S.Source g.K.Sink g.D.Disk (devices_of c.args.source.now c.args.sink.now c.args.disk.now) (devices_of c.run_import.new.source c.run_import.new.sink c.run_import.new.disk) c.run_import.result)
    (sym c.in-Import.is) c.run_import.ensures.imports

pub returns-in-Import-clause-statuses : goal.returns-in-Import-clause-statuses
returns-in-Import-clause-statuses g c = subst (λ o. MayEnd (Some o) c.run_import.result) (sym c.in-Import.is) c.run_import.ensures.statuses

pub returns-in-Import-clause-unread : goal.returns-in-Import-clause-unread
returns-in-Import-clause-unread g c = λ h. absurd (not_reading c.args.order Import c.in-Import.is refl h)

pub returns-in-Import-clause-untouched : goal.returns-in-Import-clause-untouched
returns-in-Import-clause-untouched g c = λ h. absurd (not_diskless c.args.order Import c.in-Import.is refl h)

pub returns-in-Apply-clause-ends : goal.returns-in-Apply-clause-ends
returns-in-Apply-clause-ends g c =
    subst (EndsOrder g.S.Source g.K.Sink g.D.Disk (devices_of c.args.source.now c.args.sink.now c.args.disk.now) (devices_of c.run_apply.new.source c.run_apply.new.sink c.run_apply.new.disk) c.run_apply.result)
    (sym c.in-Apply.is) c.run_apply.ensures.applies

pub returns-in-Apply-clause-statuses : goal.returns-in-Apply-clause-statuses
returns-in-Apply-clause-statuses g c = subst (λ o. MayEnd (Some o) c.run_apply.result) (sym c.in-Apply.is) c.run_apply.ensures.statuses

pub returns-in-Apply-clause-unread : goal.returns-in-Apply-clause-unread
returns-in-Apply-clause-unread g c = λ h. absurd (not_reading c.args.order Apply c.in-Apply.is refl h)

pub returns-in-Apply-clause-untouched : goal.returns-in-Apply-clause-untouched
returns-in-Apply-clause-untouched g c = λ h. absurd (not_diskless c.args.order Apply c.in-Apply.is refl h)

pub returns-in-Show-clause-ends : goal.returns-in-Show-clause-ends
returns-in-Show-clause-ends g c =
    subst (EndsOrder g.S.Source g.K.Sink g.D.Disk (devices_of c.args.source.now c.args.sink.now c.args.disk.now) (devices_of c.args.source.now c.run_show.new.sink c.run_show.new.disk) c.run_show.result)
    (sym c.in-Show.is) c.run_show.ensures.shows

pub returns-in-Show-clause-statuses : goal.returns-in-Show-clause-statuses
returns-in-Show-clause-statuses g c = subst (λ o. MayEnd (Some o) c.run_show.result) (sym c.in-Show.is) c.run_show.ensures.statuses

pub returns-in-Show-clause-source_fault : goal.returns-in-Show-clause-source_fault
returns-in-Show-clause-source_fault g c = λ e. absurd (quiet_reads_nothing c.run_show.result c.run_show.ensures.statuses e)

pub returns-in-Show-clause-untouched : goal.returns-in-Show-clause-untouched
returns-in-Show-clause-untouched g c = λ h. absurd (not_diskless c.args.order Show c.in-Show.is refl h)

pub returns-in-Verify-clause-ends : goal.returns-in-Verify-clause-ends
returns-in-Verify-clause-ends g c =
    subst (EndsOrder g.S.Source g.K.Sink g.D.Disk (devices_of c.args.source.now c.args.sink.now c.args.disk.now) (devices_of c.args.source.now c.run_verify.new.sink c.run_verify.new.disk) c.run_verify.result)
    (sym c.in-Verify.is) c.run_verify.ensures.verifies

pub returns-in-Verify-clause-statuses : goal.returns-in-Verify-clause-statuses
returns-in-Verify-clause-statuses g c = subst (λ o. MayEnd (Some o) c.run_verify.result) (sym c.in-Verify.is) c.run_verify.ensures.statuses

pub returns-in-Verify-clause-source_fault : goal.returns-in-Verify-clause-source_fault
returns-in-Verify-clause-source_fault g c = λ e. absurd (quiet_reads_nothing c.run_verify.result c.run_verify.ensures.statuses e)

pub returns-in-Verify-clause-untouched : goal.returns-in-Verify-clause-untouched
returns-in-Verify-clause-untouched g c = λ h. absurd (not_diskless c.args.order Verify c.in-Verify.is refl h)

pub returns-in-Pack-clause-ends : goal.returns-in-Pack-clause-ends
returns-in-Pack-clause-ends g c =
    subst (EndsOrder g.S.Source g.K.Sink g.D.Disk (devices_of c.args.source.now c.args.sink.now c.args.disk.now) (devices_of c.args.source.now c.run_pack.new.sink c.run_pack.new.disk) c.run_pack.result)
    (sym c.in-Pack.is) c.run_pack.ensures.packs

pub returns-in-Pack-clause-statuses : goal.returns-in-Pack-clause-statuses
returns-in-Pack-clause-statuses g c = subst (λ o. MayEnd (Some o) c.run_pack.result) (sym c.in-Pack.is) c.run_pack.ensures.statuses

pub returns-in-Pack-clause-source_fault : goal.returns-in-Pack-clause-source_fault
returns-in-Pack-clause-source_fault g c = λ e. absurd (quiet_reads_nothing c.run_pack.result c.run_pack.ensures.statuses e)

pub returns-in-Pack-clause-untouched : goal.returns-in-Pack-clause-untouched
returns-in-Pack-clause-untouched g c = λ h. absurd (not_diskless c.args.order Pack c.in-Pack.is refl h)

pub returns-in-Undo-clause-ends : goal.returns-in-Undo-clause-ends
returns-in-Undo-clause-ends g c =
    subst (EndsOrder g.S.Source g.K.Sink g.D.Disk (devices_of c.args.source.now c.args.sink.now c.args.disk.now) (devices_of c.args.source.now c.run_undo.new.sink c.run_undo.new.disk) c.run_undo.result)
    (sym c.in-Undo.is) c.run_undo.ensures.undoes

pub returns-in-Undo-clause-statuses : goal.returns-in-Undo-clause-statuses
returns-in-Undo-clause-statuses g c = subst (λ o. MayEnd (Some o) c.run_undo.result) (sym c.in-Undo.is) c.run_undo.ensures.statuses

pub returns-in-Undo-clause-source_fault : goal.returns-in-Undo-clause-source_fault
returns-in-Undo-clause-source_fault g c = λ e. absurd (quiet_reads_nothing c.run_undo.result c.run_undo.ensures.statuses e)

pub returns-in-Undo-clause-untouched : goal.returns-in-Undo-clause-untouched
returns-in-Undo-clause-untouched g c = λ h. absurd (not_diskless c.args.order (Undo c.in-Undo.count) c.in-Undo.is refl h)

pub returns-in-Hub-clause-ends : goal.returns-in-Hub-clause-ends
returns-in-Hub-clause-ends g c =
    subst (EndsOrder g.S.Source g.K.Sink g.D.Disk (devices_of c.args.source.now c.args.sink.now c.args.disk.now) (devices_of c.run_hub_script.new.source c.run_hub_script.new.sink c.args.disk.now) c.run_hub_script.result)
    (sym c.in-Hub.is) c.run_hub_script.ensures.runs

pub returns-in-Hub-clause-statuses : goal.returns-in-Hub-clause-statuses
returns-in-Hub-clause-statuses g c = subst (λ o. MayEnd (Some o) c.run_hub_script.result) (sym c.in-Hub.is) c.run_hub_script.ensures.statuses

pub returns-in-Hub-clause-unread : goal.returns-in-Hub-clause-unread
returns-in-Hub-clause-unread g c = λ h. absurd (not_reading c.args.order Hub c.in-Hub.is refl h)

pub returns-in-Hub-clause-disk_fault : goal.returns-in-Hub-clause-disk_fault
returns-in-Hub-clause-disk_fault g c = λ e. absurd (script_stores_nothing c.run_hub_script.result c.run_hub_script.ensures.statuses e)

pub returns-in-Link-clause-ends : goal.returns-in-Link-clause-ends
returns-in-Link-clause-ends g c =
    subst (EndsOrder g.S.Source g.K.Sink g.D.Disk (devices_of c.args.source.now c.args.sink.now c.args.disk.now) (devices_of c.run_link_script.new.source c.run_link_script.new.sink c.args.disk.now) c.run_link_script.result)
    (sym c.in-Link.is) c.run_link_script.ensures.runs

pub returns-in-Link-clause-statuses : goal.returns-in-Link-clause-statuses
returns-in-Link-clause-statuses g c = subst (λ o. MayEnd (Some o) c.run_link_script.result) (sym c.in-Link.is) c.run_link_script.ensures.statuses

pub returns-in-Link-clause-unread : goal.returns-in-Link-clause-unread
returns-in-Link-clause-unread g c = λ h. absurd (not_reading c.args.order Link c.in-Link.is refl h)

pub returns-in-Link-clause-disk_fault : goal.returns-in-Link-clause-disk_fault
returns-in-Link-clause-disk_fault g c = λ e. absurd (script_stores_nothing c.run_link_script.result c.run_link_script.ensures.statuses e)

pub run_generated-requires-clause-positive : goal.run_generated-requires-clause-positive
run_generated-requires-clause-positive g c = (subst HasFewEntries c.in-Gen.is c.requires).0

pub run_generated-requires-clause-bounded : goal.run_generated-requires-clause-bounded
run_generated-requires-clause-bounded g c = (subst HasFewEntries c.in-Gen.is c.requires).1
