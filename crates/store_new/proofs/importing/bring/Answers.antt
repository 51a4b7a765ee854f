use Rattle.std.proofs.Common.{inl, inr, refl}
use Rattle.std.proofs.KnownBytes.{Appends-nil}
use Rattle.doc_values.specs.Documents.{doc_tree}
use Rattle.lens_forms.specs.Forms.{form_tree}
use Rattle.program_terms.specs.Views.{program_tree}
use Rattle.store_new.proofs.NewRoomsHold.{no_room_for_plan}
use Rattle.store_new.specs.ImportStores.{IsImportStore}
use Rattle.store_new.proofs.importing.bring.Goals as goal

pub returns-in_default-clause-ends : goal.returns-in_default-clause-ends
returns-in_default-clause-ends g c = inr (refl, refl, Appends-nil (g.K.Sink.held c.args.sink.now))

pub returns-clause-ends : goal.returns-clause-ends
returns-clause-ends g c = inl (record { payloads = c.in-Ok.store.payloads; lines = c.in-Ok.store.lines.items; planned = c.in-Ok.ensures; ends = rw c.deref.ensures.value at c.make_store.ensures.ends })

pub returns-clause-room : goal.returns-clause-room
returns-clause-room g c =
    let store = c.in-Ok.store in
    let accepted = c.args.accepted.now in
    λ e. no_room_for_plan (g.D.Disk.room c.args.disk.now) (IsImportStore (program_tree accepted.program) (form_tree accepted.lens) (doc_tree c.args.doc)) store.payloads store.lines.items c.in-Ok.ensures
    (c.make_store.ensures.room e)
