-- One level of a form that maps another over a container.
use Rattle.std.proofs.Common.{◌≡◌, Box, Global, rules}
use Rattle.lens_forms.specs.Forms.{form_each, form_keyed, form_ordered, form_tree}
use Rattle.lens_forms.specs.declared.form.Form.{Form, the_lemmas as form_lemmas}
use Rattle.lens_forms.specs.declared.form.Form.TheVariants.{Each, Keyed, Tree}

pub each_tree : (f : Form) (i : Box Form Global) (l : Form) → f ≡ Each i → l ≡ i.value → form_tree f ≡ form_each (form_tree l)
each_tree f i l is e = rw (is, e) (search (rules, form_lemmas))

pub keyed_tree : (f : Form) (i : Box Form Global) (l : Form) → f ≡ Keyed i → l ≡ i.value → form_tree f ≡ form_keyed (form_tree l)
keyed_tree f i l is e = rw (is, e) (search (rules, form_lemmas))

pub ordered_tree : (f : Form) (i : Box Form Global) (l : Form) → f ≡ Tree i → l ≡ i.value → form_tree f ≡ form_ordered (form_tree l)
ordered_tree f i l is e = rw (is, e) (search (rules, form_lemmas))
