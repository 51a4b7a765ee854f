-- The trees of forms with fields or tags.
use Rattle.std.proofs.Common.{◌≡◌, ℕ, List, rules, Vec, Global}
use Rattle.file_forms.specs.Forms.{as_object, as_tagged, as_bare, file_form_tree, forms_view}
use Rattle.file_forms.specs.declared.form.FileForm.{FileForm, Object, Tagged, Bare, the_lemmas}

pub form-Object : (v : Vec (List ℕ × FileForm) Global) → file_form_tree (Object v) ≡ as_object (forms_view v.items)
form-Object v = search (rules, the_lemmas)

pub form-Tagged : (v : Vec (List ℕ × FileForm) Global) → file_form_tree (Tagged v) ≡ as_tagged (forms_view v.items)
form-Tagged v = search (rules, the_lemmas)

pub form-Bare : (v : Vec (List ℕ × FileForm) Global) → file_form_tree (Bare v) ≡ as_bare (forms_view v.items)
form-Bare v = search (rules, the_lemmas)
