use Rattle.std.proofs.Common.{◌≡◌, true, sym, subst}
use Rattle.doc_values.specs.Documents.{doc_tree}
use Rattle.doc_values.specs.Initial.{initial}
use Rattle.doc_values.specs.Types.{ty_tree}
use Rattle.doc_values.specs.Typing.{has}
use Rattle.edit_module.specs.Views.{word_tree}
use Rattle.lens_forms.specs.Forms.{form_tree}
use Rattle.run_answers.proofs.ActingCounts.{acting_fits}
use Rattle.store_new.proofs.FirstSteps.{document_made}
use Rattle.store_new.proofs.importing.document_entry.Goals as goal

pub construct-requires : goal.construct-requires
construct-requires c = subst (λ ty. has ty (doc_tree c.args.doc) ≡ true) (sym c.left.ensures.left) c.requires.typed

pub returns : goal.returns
returns c =
    let ty = ty_tree c.left.result.now in
    let word = word_tree c.in_ok-word.word in
    let doc = doc_tree c.args.doc in
    let acts = c.in_ok-word.ensures.makes c.left.ensures.well_formed in
    document_made (form_tree c.args.lens.now) doc ty word c.left.ensures.left c.in_ok-word.ensures.exact acts (acting_fits word ty (initial ty) doc acts)
