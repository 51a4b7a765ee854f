use Rattle.std.proofs.Common.{◌<◌, ◌-◌, length, subst, arith, rules}
use Rattle.std.proofs.lemmas.List.{length-map}
use Rattle.std.proofs.lemmas.Result.{err_from_is_err_and}
use Rattle.doc_values.specs.Documents.{DocTree, doc_tree}
use Rattle.doc_values.specs.Types.{ty_tree}
use Rattle.lens_forms.specs.Forms.{form_tree, left_type}
use Rattle.embed_session.specs.States.{IsDocumentText, IsOfType}
use Rattle.embed_hub.proofs.StateTexts.{some_typed, not_hub, texts_fault, is_there}
use Rattle.embed_hub.proofs.state_texts.read_parts.Goals as goal

pub returns-in_default : goal.returns-in_default
returns-in_default c =
    let some = some_typed c.args.typed.now c.requires.one_left in
    let within : 0 < length c.args.texts.now = omega (arith, c.if-texts-typed.false) in
    let text = c.as_slice.result.now in
    let none : (doc : DocTree) → IsDocumentText (ty_tree c.left.result.now) text doc → ⊥ = search rules in (
      omega (arith, c.if-texts-typed.false, length-map c.args.typed.now form_tree),
      not_hub c.args.typed.now c.args.texts.now c.index-typed-0.result text some c.index-typed-0.is within
          (is_there c.args.texts.now 0 c.index-texts-0.result text c.as_slice.ensures c.index-texts-0.is)
          (subst (λ ty. (doc : DocTree) → IsDocumentText ty text doc → ⊥) c.left.ensures.left none),
    )

pub returns-in_err-views : goal.returns-in_err-views
returns-in_err-views c =
    let p = err_from_is_err_and c.from_residual-in_err-views.result c.from_residual-in_err-views.ensures.1 in
    let some = some_typed c.args.typed.now c.requires.one_left in
    let text = c.as_slice.result.now in
    let doc : IsDocumentText (ty_tree c.left.result.now) text (doc_tree c.in-Some.hub) = search rules in
    let hub : IsOfType (left_type (form_tree c.index-typed-0.result)) text = (doc_tree c.in-Some.hub, subst (λ ty. IsDocumentText ty text (doc_tree c.in-Some.hub)) c.left.ensures.left doc) in
    rw (p.1, p.2)
    (texts_fault c.args.typed.now c.args.texts.now c.index-typed-0.result text c.in_err-views.field-0.0 some c.index-typed-0.is c.if-texts-typed.false
    (is_there c.args.texts.now 0 c.index-texts-0.result text c.as_slice.ensures c.index-texts-0.is) hub c.in_err-views.ensures)
