use Rattle.std.proofs.Common.{subst, rules}
use Rattle.doc_values.specs.Documents.{DocTree}
use Rattle.doc_values.specs.Types.{ty_tree}
use Rattle.lens_forms.specs.Forms.{form_tree, left_type}
use Rattle.embed_session.specs.States.{IsDocumentText, IsOfType, IsOfForm}
use Rattle.embed_session.proofs.resuming.read_triple.Goals as goal

pub returns-in_default : goal.returns-in_default
returns-in_default c =
    let none : (doc : DocTree) → IsDocumentText (ty_tree c.left.result.now) c.args.left.now doc → ⊥ = search rules in
    subst (λ ty. (doc : DocTree) → IsDocumentText ty c.args.left.now doc → ⊥) c.left.ensures.left none

pub returns-in_default-3 : goal.returns-in_default-3
returns-in_default-3 c =
    let none : (doc : DocTree) → IsDocumentText (ty_tree c.right.result.now) c.args.right.now doc → ⊥ = search rules in
    let right = subst (λ ty. (doc : DocTree) → IsDocumentText ty c.args.right.now doc → ⊥) c.right.ensures.right none in
    let left : IsOfType (left_type (form_tree c.args.typed.now)) c.args.left.now = search rules in
    let comp : IsOfForm (form_tree c.args.typed.now) c.args.comp.now = search rules in
    (left, comp, right)
