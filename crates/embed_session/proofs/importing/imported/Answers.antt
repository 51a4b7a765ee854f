use Rattle.std.proofs.Common.{subst}
use Rattle.doc_values.specs.Documents.{DocTree}
use Rattle.lens_forms.specs.Forms.{form_tree}
use Rattle.embed_session.specs.States.{IsDocumentText}
use Rattle.embed_session.proofs.importing.imported.Goals as goal

pub returns-in-Ok-None : goal.returns-in-Ok-None
returns-in-Ok-None c program lens text = record {
  form = form_tree c.args.begun.typed;
  lens = lens;
  refused = subst (λ ty. (doc : DocTree) → IsDocumentText ty c.args.document.now doc → ⊥) c.side_type.ensures.is (rw c.in-Ok-None.field-0-is at c.in-Ok-None.ensures);
  names_side = c.side_fault.ensures;
}
