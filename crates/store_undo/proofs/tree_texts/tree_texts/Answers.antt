use Rattle.std.proofs.Common.{◌≡◌, ◌≤◌, sym, ap, ap₂, ◌∙◌, subst}
use Rattle.std.specs.Prelude.{string_bytes}
use Rattle.doc_values.specs.Documents.{doc_tree}
use Rattle.doc_values.specs.Types.{TyTree, ty_tree, height}
use Rattle.value_json.specs.DocumentJson.{holds_i64s, tree_of_document}
use Rattle.lens_core.specs.Complements.{comp_tree}
use Rattle.lens_forms.specs.Forms.{form_tree, left_type, right_type}
use Rattle.lens_forms.specs.Measures.{form_height}
use Rattle.lens_forms.specs.declared.limits.TheConstants.{GREATEST_HEIGHT}
use Rattle.complement_file.specs.ComplementJson.{tree_of_complement}
use Rattle.edit_session.specs.Views.{triple_tree}
use Rattle.run_answers.proofs.InStep.{in_step_fits}
use Rattle.store_records.proofs.PayloadTrees.{snapshot_low}
use Rattle.store_undo.specs.TreeTexts.{IsTreeText}
use Rattle.store_undo.proofs.tree_texts.tree_texts.Goals as goal

pub complement_text-requires : goal.complement_text-requires
complement_text-requires c = record {
  fits = rw (c.typed-typed.ensures, c.lens.ensures, c.comp.ensures.comp)
      (in_step_fits (form_tree c.args.session.now.lens.typed) (triple_tree c.args.session.now.triple) c.comp.ensures.consistent);
}

pub returns : goal.returns
returns c =
    let form = form_tree c.args.session.now.lens.typed in
    let t = triple_tree c.args.session.now.triple in
    let typed_is = c.typed-typed.ensures ∙ ap (λ x. x.typed) c.lens.ensures in
    let left_is : ty_tree c.left.result.now ≡ left_type form = c.left.ensures.left ∙ ap (λ x. left_type (form_tree x)) typed_is in
    let right_is : ty_tree c.right.result.now ≡ right_type form = c.right.ensures.right ∙ ap (λ x. right_type (form_tree x)) typed_is in
    let high : form_height form ≤ GREATEST_HEIGHT = subst (λ x. form_height (form_tree x) ≤ GREATEST_HEIGHT) (c.form-form.ensures.is ∙ typed_is) c.form-form.ensures.low in
    record {
      left =
          subst (λ d. IsTreeText d (string_bytes c.in_ok-left.left)) (ap₂ (λ ty x. tree_of_document ty (doc_tree x)) left_is c.left-2.ensures.left) c.in_ok-left.ensures.text;
      comp =
          subst (λ d. IsTreeText d (string_bytes c.in_ok-comp.comp)) (ap₂ (λ l x. tree_of_complement (form_tree l) (comp_tree x)) typed_is c.comp.ensures.comp) c.in_ok-comp.ensures;
      right =
          subst (λ d. IsTreeText d (string_bytes c.in_ok-right.right)) (ap₂ (λ ty x. tree_of_document ty (doc_tree x)) right_is c.right-2.ensures.right) c.in_ok-right.ensures.text;
      left_whole = ap (λ x. holds_i64s (doc_tree x)) (sym c.left-2.ensures.left) ∙ c.in_ok-left.ensures.ints;
      right_whole = ap (λ x. holds_i64s (doc_tree x)) (sym c.right-2.ensures.right) ∙ c.in_ok-right.ensures.ints;
      consistent = c.comp.ensures.consistent;
      low = snapshot_low form t.left t.comp t.right high
          (subst (λ (ty : TyTree). height ty ≤ GREATEST_HEIGHT) left_is c.left.ensures.low)
          (subst (λ (ty : TyTree). height ty ≤ GREATEST_HEIGHT) right_is c.right.ensures.low);
    }
