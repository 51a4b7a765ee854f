use Rattle.std.proofs.Common.{refl, subst, rules}
use Rattle.doc_values.specs.Documents.{DocTree}
use Rattle.doc_values.specs.Types.{ty_tree}
use Rattle.embed_session.specs.States.{IsDocumentText}
use Rattle.embed_hub.proofs.state_texts.read_view.Goals as goal

pub returns-in_default : goal.returns-in_default
returns-in_default c =
    let none : (doc : DocTree) → IsDocumentText (ty_tree c.right.result.now) c.args.doc.now doc → ⊥ = search rules in
    (subst (λ ty. (doc : DocTree) → IsDocumentText ty c.args.doc.now doc → ⊥) c.right.ensures.right none, refl)
