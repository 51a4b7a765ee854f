use Rattle.std.proofs.Common.{◌≡◌, IfOk, option_map, subst, sym, ap, ◌∙◌}
use Rattle.file_forms.specs.Forms.{as_bare, file_form_tree, forms_view}
use Rattle.file_forms.specs.Misfits.{misfit_view, at_field, out_of_order, tag_twice, own_misfit}
use Rattle.file_forms.specs.declared.misfit.FormFault.TheVariants.{FieldOrder, TagTwice}
use Rattle.file_forms.proofs.FormParts.{form-Object, form-Tagged, form-Bare}
use Rattle.file_forms.proofs.fit.own_misfit.Goals as goal

pub returns-in-Object : goal.returns-in-Object
returns-in-Object c =
    let name = c.out_of_order.ensures ∙ ap (λ fs. out_of_order (forms_view fs)) c.as_slice-in-Object.ensures.value in
    let form = ap file_form_tree c.in-Object.is ∙ form-Object c.in-Object.fields in
    subst (λ x. IfOk c.at_field.result (λ m. option_map misfit_view m ≡ x)) (ap (option_map (at_field FieldOrder)) name ∙ sym (ap own_misfit form)) c.at_field.ensures

pub returns-in-Tagged : goal.returns-in-Tagged
returns-in-Tagged c =
    let name = c.tag_twice.ensures ∙ ap (λ fs. tag_twice (forms_view fs)) c.as_slice-in-Tagged.ensures.value in
    let form = ap file_form_tree c.in-Tagged.is ∙ form-Tagged c.in-Tagged.tags in
    subst (λ x. IfOk c.at_field-in-Tagged.result (λ m. option_map misfit_view m ≡ x)) (ap (option_map (at_field TagTwice)) name ∙ sym (ap own_misfit form)) c.at_field-in-Tagged.ensures

pub returns-in-Bare : goal.returns-in-Bare
returns-in-Bare c =
    let tags = ap (λ fs. own_misfit (as_bare (forms_view fs))) c.as_slice-in-Bare.ensures.value in
    let form = ap file_form_tree c.in-Bare.is ∙ form-Bare c.in-Bare.tags in
    subst (λ x. IfOk c.bare_misfit.result (λ m. option_map misfit_view m ≡ x)) (tags ∙ sym (ap own_misfit form)) c.bare_misfit.ensures
