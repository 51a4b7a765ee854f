use Rattle.std.proofs.Common.{◌++◌, codes, ap, ap₂, ◌∙◌, sym, subst, IsTrue, Some}
use Rattle.doc_values.specs.Documents.{doc_tree}
use Rattle.doc_values.specs.Types.{ty_tree}
use Rattle.doc_values.specs.Typing.{has}
use Rattle.lens_forms.specs.Forms.{form_tree}
use Rattle.lens_core.specs.Complements.{comp_tree, Fits}
use Rattle.value_json.specs.DocumentJson.{tree_of_document}
use Rattle.complement_file.specs.ComplementJson.{tree_of_complement}
use Rattle.answer_text.specs.Lines.{tree_line}
use Rattle.turn_link.specs.LeftViews.{left_tree}
use Rattle.turn_link.specs.RightViews.{right_tree}
use Rattle.turn_link.specs.LinkViews.{link_tree}
use Rattle.run_link.specs.Answers.{numbers_line}
use Rattle.run_link.proofs.ShownState.{shown_text, shown_fits}
use Rattle.run_link.proofs.state.link_state_lines.Goals as goal

pub document_line-requires-clause-typed : goal.document_line-requires-clause-typed
document_line-requires-clause-typed g c =
    let type_is = c.left.ensures.left ∙ sym c.requires.of_form.left_is ∙ sym (ap (λ s. g.L.EditLens.left_type s.lens) c.left-near.ensures.left) in
    subst (λ ty. IsTrue (has ty (doc_tree c.doc.result.now))) (sym type_is) c.doc.ensures.typed

pub document_line-requires-2-clause-typed : goal.document_line-requires-2-clause-typed
document_line-requires-2-clause-typed g c =
    let type_is =
    c.right.ensures.right ∙ sym c.requires.of_form.right_is ∙ sym c.left-near.ensures.right_type ∙ sym (ap (λ s. ty_tree s.ty) c.right-far.ensures) in
    subst (λ ty. IsTrue (has ty (doc_tree c.doc-2.result.now))) (sym type_is) c.doc-2.ensures.typed

pub complement_line-requires : goal.complement_line-requires
complement_line-requires g c =
    let lens = g.L.EditLens in
    let link = c.args.link.now in
    let l = link.left.lens in
    subst (λ d. Fits (form_tree c.args.typed.now) (comp_tree d)) (sym (c.comp.ensures ∙ ap (λ s. s.parts.comp) c.left-near.ensures.left))
    (shown_fits (lens.holds l) (lens.left_type l) (lens.right_type l) (lens.start l) (lens.carried l) (form_tree c.args.typed.now) c.requires.of_form
    (link_tree link) (left_tree link.left.parts) (right_tree link.right.parts) c.left-near.ensures.sites)

pub returns : goal.returns
returns g c =
    let form = form_tree c.args.typed.now in
    let lens = g.L.EditLens in
    let link = c.args.link.now in
    let l = link.left.lens in
    let near = c.left-near.ensures.left in
    let far = c.right-far.ensures in
    let left = c.in_ok-left.ensures ∙ ap₂ (λ ty d. tree_line (codes "left") (tree_of_document ty (doc_tree d))) c.left.ensures.left (c.doc.ensures.doc ∙ ap (λ s. s.parts.doc) near) in
    let right = c.in_ok-right.ensures ∙ ap₂ (λ ty d. tree_line (codes "right") (tree_of_document ty (doc_tree d))) c.right.ensures.right (c.doc-2.ensures.doc ∙ ap (λ s. s.parts.doc) far) in
    let comp = c.in_ok-comp.ensures ∙ ap (λ d. tree_line (codes "complement") (tree_of_complement form (comp_tree d))) (c.comp.ensures ∙ ap (λ s. s.parts.comp) near) in
    let numbers = c.in_ok-numbers.ensures ∙ ap₂ numbers_line (c.number.ensures ∙ ap (λ s. s.parts.number) near) (c.number-2.ensures ∙ ap (λ s. s.parts.number) far) in
    let shown =
    shown_text (lens.holds l) (lens.left_type l) (lens.right_type l) (lens.start l) (lens.carried l) form c.requires.of_form
    (link_tree link) (left_tree link.left.parts) (right_tree link.right.parts) c.left-near.ensures.sites in
    record {
      lines = shown
          ∙ ap Some (sym (c.in_ok-extend_from_slice-3.ensures.items
          ∙ ap₂ (λ x y. x ++ y) (c.in_ok-extend_from_slice-2.ensures.items
          ∙ ap₂ (λ x y. x ++ y) (c.in_ok-extend_from_slice.ensures.items ∙ ap₂ (λ x y. x ++ y) (c.into_vec-text.ensures ∙ left) (c.as_slice.ensures ∙ right)) (c.as_slice-2.ensures ∙ comp)) (c.as_slice-3.ensures ∙ numbers)));
    }
