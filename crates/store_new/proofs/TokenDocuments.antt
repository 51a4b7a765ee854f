-- The document of a text that was read from its tokens.
use Rattle.std.proofs.Common.{◌≡◌, ℕ, List, Ok, ap, ◌∙◌}
use Rattle.doc_values.specs.Documents.{DocTree}
use Rattle.doc_values.specs.Types.{TyTree}
use Rattle.edit_journal.specs.EntryJson.{tree_of_text}
use Rattle.lens_tokens.specs.Texts.{IsDocumentOf}
use Rattle.store_new.specs.Import.{if_typed, if_json}

pub document_read : (ty : TyTree) (text : List ℕ) (doc : DocTree) → IsDocumentOf ty text doc → if_json ty (tree_of_text text) ≡ Ok doc
document_read ty text doc h = ap (if_json ty) h.1 ∙ ap if_typed h.2
