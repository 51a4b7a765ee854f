use Rattle.std.proofs.Common.{Some, sym, subst, refl}
use Rattle.command_ends.proofs.AmongStatuses.{quiet_reads_nothing}
use Rattle.edithub_main.specs.HubEnds.{EndsHubOrder, HubMayEnd}
use Rattle.edithub_main.specs.declared.words.HubOrder.TheVariants.{Init, Apply, Show, Verify, Pack, Undo, Add}
use Rattle.edithub_main.proofs.HubClauses.{not_reading, not_diskless}
use Rattle.edithub_main.proofs.top.run_order.Goals as goal
use Rattle.store_run.specs.Devices.{devices_of}

pub returns-in-Init-clause-ends : goal.returns-in-Init-clause-ends
returns-in-Init-clause-ends g c =
    subst (EndsHubOrder g.S.Source g.K.Sink g.D.Disk (devices_of c.args.source.now c.args.sink.now c.args.disk.now) (devices_of c.run_init.new.source c.run_init.new.sink c.run_init.new.disk) c.run_init.result)
    (sym c.in-Init.is) c.run_init.ensures.makes

pub returns-in-Init-clause-statuses : goal.returns-in-Init-clause-statuses
returns-in-Init-clause-statuses g c = subst (λ o. HubMayEnd (Some o) c.run_init.result) (sym c.in-Init.is) c.run_init.ensures.statuses

pub returns-in-Init-clause-unread : goal.returns-in-Init-clause-unread
returns-in-Init-clause-unread g c = λ h. absurd (not_reading c.args.order Init c.in-Init.is refl h)

pub returns-in-Init-clause-untouched : goal.returns-in-Init-clause-untouched
returns-in-Init-clause-untouched g c = λ h. absurd (not_diskless c.args.order Init c.in-Init.is refl h)

pub returns-in-Apply-clause-ends : goal.returns-in-Apply-clause-ends
returns-in-Apply-clause-ends g c =
    subst (EndsHubOrder g.S.Source g.K.Sink g.D.Disk (devices_of c.args.source.now c.args.sink.now c.args.disk.now) (devices_of c.run_apply.new.source c.run_apply.new.sink c.run_apply.new.disk) c.run_apply.result)
    (sym c.in-Apply.is) c.run_apply.ensures.applies

pub returns-in-Apply-clause-statuses : goal.returns-in-Apply-clause-statuses
returns-in-Apply-clause-statuses g c = subst (λ o. HubMayEnd (Some o) c.run_apply.result) (sym c.in-Apply.is) c.run_apply.ensures.statuses

pub returns-in-Apply-clause-unread : goal.returns-in-Apply-clause-unread
returns-in-Apply-clause-unread g c = λ h. absurd (not_reading c.args.order Apply c.in-Apply.is refl h)

pub returns-in-Apply-clause-untouched : goal.returns-in-Apply-clause-untouched
returns-in-Apply-clause-untouched g c = λ h. absurd (not_diskless c.args.order Apply c.in-Apply.is refl h)

pub returns-in-Show-clause-ends : goal.returns-in-Show-clause-ends
returns-in-Show-clause-ends g c =
    subst (EndsHubOrder g.S.Source g.K.Sink g.D.Disk (devices_of c.args.source.now c.args.sink.now c.args.disk.now) (devices_of c.args.source.now c.run_show.new.sink c.run_show.new.disk) c.run_show.result)
    (sym c.in-Show.is) c.run_show.ensures.shows

pub returns-in-Show-clause-statuses : goal.returns-in-Show-clause-statuses
returns-in-Show-clause-statuses g c = subst (λ o. HubMayEnd (Some o) c.run_show.result) (sym c.in-Show.is) c.run_show.ensures.statuses

pub returns-in-Show-clause-source_fault : goal.returns-in-Show-clause-source_fault
returns-in-Show-clause-source_fault g c = λ e. absurd (quiet_reads_nothing c.run_show.result c.run_show.ensures.statuses e)

pub returns-in-Show-clause-untouched : goal.returns-in-Show-clause-untouched
returns-in-Show-clause-untouched g c = λ h. absurd (not_diskless c.args.order Show c.in-Show.is refl h)

pub returns-in-Verify-clause-ends : goal.returns-in-Verify-clause-ends
returns-in-Verify-clause-ends g c =
    subst (EndsHubOrder g.S.Source g.K.Sink g.D.Disk (devices_of c.args.source.now c.args.sink.now c.args.disk.now) (devices_of c.args.source.now c.run_verify.new.sink c.run_verify.new.disk) c.run_verify.result)
    (sym c.in-Verify.is) c.run_verify.ensures.verifies

pub returns-in-Verify-clause-statuses : goal.returns-in-Verify-clause-statuses
returns-in-Verify-clause-statuses g c = subst (λ o. HubMayEnd (Some o) c.run_verify.result) (sym c.in-Verify.is) c.run_verify.ensures.statuses

pub returns-in-Verify-clause-source_fault : goal.returns-in-Verify-clause-source_fault
returns-in-Verify-clause-source_fault g c = λ e. absurd (quiet_reads_nothing c.run_verify.result c.run_verify.ensures.statuses e)

pub returns-in-Verify-clause-untouched : goal.returns-in-Verify-clause-untouched
returns-in-Verify-clause-untouched g c = λ h. absurd (not_diskless c.args.order Verify c.in-Verify.is refl h)

pub returns-in-Pack-clause-ends : goal.returns-in-Pack-clause-ends
returns-in-Pack-clause-ends g c =
    subst (EndsHubOrder g.S.Source g.K.Sink g.D.Disk (devices_of c.args.source.now c.args.sink.now c.args.disk.now) (devices_of c.args.source.now c.run_pack.new.sink c.run_pack.new.disk) c.run_pack.result)
    (sym c.in-Pack.is) c.run_pack.ensures.packs

pub returns-in-Pack-clause-statuses : goal.returns-in-Pack-clause-statuses
returns-in-Pack-clause-statuses g c = subst (λ o. HubMayEnd (Some o) c.run_pack.result) (sym c.in-Pack.is) c.run_pack.ensures.statuses

pub returns-in-Pack-clause-source_fault : goal.returns-in-Pack-clause-source_fault
returns-in-Pack-clause-source_fault g c = λ e. absurd (quiet_reads_nothing c.run_pack.result c.run_pack.ensures.statuses e)

pub returns-in-Pack-clause-untouched : goal.returns-in-Pack-clause-untouched
returns-in-Pack-clause-untouched g c = λ h. absurd (not_diskless c.args.order Pack c.in-Pack.is refl h)

pub returns-in-Undo-clause-ends : goal.returns-in-Undo-clause-ends
returns-in-Undo-clause-ends g c =
    subst (EndsHubOrder g.S.Source g.K.Sink g.D.Disk (devices_of c.args.source.now c.args.sink.now c.args.disk.now) (devices_of c.args.source.now c.run_undo.new.sink c.run_undo.new.disk) c.run_undo.result)
    (sym c.in-Undo.is) c.run_undo.ensures.undoes

pub returns-in-Undo-clause-statuses : goal.returns-in-Undo-clause-statuses
returns-in-Undo-clause-statuses g c = subst (λ o. HubMayEnd (Some o) c.run_undo.result) (sym c.in-Undo.is) c.run_undo.ensures.statuses

pub returns-in-Undo-clause-source_fault : goal.returns-in-Undo-clause-source_fault
returns-in-Undo-clause-source_fault g c = λ e. absurd (quiet_reads_nothing c.run_undo.result c.run_undo.ensures.statuses e)

pub returns-in-Undo-clause-untouched : goal.returns-in-Undo-clause-untouched
returns-in-Undo-clause-untouched g c = λ h. absurd (not_diskless c.args.order (Undo c.in-Undo.count) c.in-Undo.is refl h)

pub returns-in-Add-clause-ends : goal.returns-in-Add-clause-ends
returns-in-Add-clause-ends g c =
    subst (EndsHubOrder g.S.Source g.K.Sink g.D.Disk (devices_of c.args.source.now c.args.sink.now c.args.disk.now) (devices_of c.run_add.new.source c.run_add.new.sink c.run_add.new.disk) c.run_add.result)
    (sym c.in-Add.is) c.run_add.ensures.adds

pub returns-in-Add-clause-statuses : goal.returns-in-Add-clause-statuses
returns-in-Add-clause-statuses g c = subst (λ o. HubMayEnd (Some o) c.run_add.result) (sym c.in-Add.is) c.run_add.ensures.statuses

pub returns-in-Add-clause-unread : goal.returns-in-Add-clause-unread
returns-in-Add-clause-unread g c = λ h. absurd (not_reading c.args.order Add c.in-Add.is refl h)

pub returns-in-Add-clause-untouched : goal.returns-in-Add-clause-untouched
returns-in-Add-clause-untouched g c = λ h. absurd (not_diskless c.args.order Add c.in-Add.is refl h)
