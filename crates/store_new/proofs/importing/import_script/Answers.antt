use Rattle.std.proofs.Common.{◌≡◌, true, Ok, inl, inr, refl, sym, ap, subst, ◌∙◌}
use Rattle.std.proofs.KnownBytes.{Appends-nil}
use Rattle.doc_values.specs.Documents.{doc_tree}
use Rattle.doc_values.specs.Typing.{has}
use Rattle.lens_forms.specs.Forms.{form_tree, left_type}
use Rattle.program_terms.specs.Views.{program_tree}
use Rattle.store_new.specs.Found.{document_of_found}
use Rattle.store_new.specs.Import.{import_line}
use Rattle.store_new.proofs.ImportEnds.{found_no_room}
use Rattle.store_new.proofs.importing.import_script.Goals as goal

pub bring-requires : goal.bring-requires
bring-requires g c = record { typed = subst (λ ty. has ty (doc_tree c.in-Ok.doc) ≡ true) c.left.ensures.left c.in-Ok.ensures.typed }

pub returns-in-Ok-clause-ends : goal.returns-in-Ok-clause-ends
returns-in-Ok-clause-ends g c =
    let found = c.args.script.now.found in
    let is = subst (λ ty. document_of_found ty found ≡ Ok (doc_tree c.in-Ok.doc)) c.left.ensures.left c.in-Ok.ensures.document in
    inr (inl (doc_tree c.in-Ok.doc, is, c.bring.ensures.ends))

pub returns-in-Err-Refused-clause-ends : goal.returns-in-Err-Refused-clause-ends
returns-in-Err-Refused-clause-ends g c =
    let found = c.args.script.now.found in
    let refused = rw c.in-Err-Refused.field-0-is at c.in-Err-Refused.ensures.document in
    let line : c.line.result.now ≡ import_line c.in-Err-Refused.refusal = cc in
    inl (
      record {
        refusal = c.in-Err-Refused.refusal;
        is = ap (λ ty. document_of_found ty found) (sym c.left.ensures.left) ∙ refused;
        given = rw line at c.give_line.ensures.gives;
      },
      refl,
    )

pub returns-in-Err-NoMemory-clause-ends : goal.returns-in-Err-NoMemory-clause-ends
returns-in-Err-NoMemory-clause-ends g c = inr (inr (refl, refl, Appends-nil (g.K.Sink.held c.args.sink.now)))

pub returns-in-Ok-clause-room : goal.returns-in-Ok-clause-room
returns-in-Ok-clause-room g c =
    let script = c.args.script.now in
    let form = form_tree script.accepted.lens in
    let doc = doc_tree c.in-Ok.doc in
    let is = subst (λ ty. document_of_found ty script.found ≡ Ok doc) c.left.ensures.left c.in-Ok.ensures.document in
    λ e. found_no_room (g.D.Disk.room c.args.disk.now) (program_tree script.accepted.program) form (document_of_found (left_type form) script.found) doc is (c.bring.ensures.room e)
