-- Documents and complements of texts that were read from their tokens.
use Rattle.std.proofs.Common.{◌≡◌, ℕ, List}
use Rattle.doc_values.specs.Documents.{DocTree}
use Rattle.doc_values.specs.Types.{TyTree}
use Rattle.lens_core.specs.Complements.{CompTree}
use Rattle.lens_forms.specs.Forms.{FormTree}
use Rattle.lens_tokens.specs.Texts.{IsDocumentOf, IsComplementOf}
use Rattle.value_json.proofs.ReadingHasTree.{takes}
use Rattle.embed_session.specs.States.{IsDocumentText, IsComplementText}

pub document_text : (ty : TyTree) (text : List ℕ) (doc : DocTree) → IsDocumentOf ty text doc → IsDocumentText ty text doc
document_text ty text doc h =
    let r = takes ty h.0 doc h.2 in
    record { tree = h.0; read = h.1; of_tree = record { of_type = r.typed; ints = r.whole; is = r.tree } }

pub complement_text : (form : FormTree) (text : List ℕ) (comp : CompTree) → IsComplementOf form text comp → IsComplementText form text comp
complement_text form text comp h = record { tree = h.0; read = h.1; of_tree = record { fits = h.2.0; is = h.2.1 } }
