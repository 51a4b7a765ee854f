use Rattle.std.proofs.Common.{◌++◌, codes, ap, ap₂, ◌∙◌, sym, subst, IsTrue}
use Rattle.doc_values.specs.Documents.{doc_tree}
use Rattle.doc_values.specs.Typing.{has}
use Rattle.lens_forms.specs.Forms.{form_tree}
use Rattle.lens_core.specs.Complements.{comp_tree, Fits}
use Rattle.value_json.specs.DocumentJson.{tree_of_document}
use Rattle.complement_file.specs.ComplementJson.{tree_of_complement}
use Rattle.answer_text.specs.Lines.{tree_line}
use Rattle.edit_session.specs.Views.{triple_tree}
use Rattle.run_answers.proofs.InStep.{in_step_fits}
use Rattle.run_answers.proofs.state.state_lines.Goals as goal

pub document_line-requires-clause-typed : goal.document_line-requires-clause-typed
document_line-requires-clause-typed g c =
    let type_is = c.left.ensures.left ∙ sym c.requires.of_form.left_is in
    subst (λ ty. IsTrue (has ty (doc_tree c.left-2.result.now))) (sym type_is) c.left-2.ensures.typed

pub document_line-requires-2-clause-typed : goal.document_line-requires-2-clause-typed
document_line-requires-2-clause-typed g c =
    let type_is = c.right.ensures.right ∙ sym c.requires.of_form.right_is in
    subst (λ ty. IsTrue (has ty (doc_tree c.right-2.result.now))) (sym type_is) c.right-2.ensures.typed

pub complement_line-requires : goal.complement_line-requires
complement_line-requires g c =
    subst (λ d. Fits (form_tree c.args.typed.now) (comp_tree d)) (sym c.comp.ensures.comp) (in_step_fits (form_tree c.args.typed.now) (triple_tree c.args.session.now.triple) ((c.requires.of_form.relates _ _ _).0 c.comp.ensures.consistent))

pub returns : goal.returns
returns g c =
    let form = form_tree c.args.typed.now in
    let left = c.in_ok-left.ensures ∙ ap₂ (λ ty d. tree_line (codes "left") (tree_of_document ty (doc_tree d))) c.left.ensures.left c.left-2.ensures.left in
    let right = c.in_ok-right.ensures ∙ ap₂ (λ ty d. tree_line (codes "right") (tree_of_document ty (doc_tree d))) c.right.ensures.right c.right-2.ensures.right in
    let comp = c.in_ok-comp.ensures ∙ ap (λ d. tree_line (codes "complement") (tree_of_complement form (comp_tree d))) c.comp.ensures.comp in
    record {
      lines = c.in_ok-extend_from_slice-2.ensures.items
          ∙ ap₂ (λ x y. x ++ y) (c.in_ok-extend_from_slice.ensures.items ∙ ap₂ (λ x y. x ++ y) (c.into_vec-text.ensures ∙ left) (c.as_slice.ensures ∙ right)) (c.as_slice-2.ensures ∙ comp);
    }
