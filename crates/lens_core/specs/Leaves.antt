-- The forms of lenses that keep nothing.
use Rattle.std.specs.Prelude.{Bool, true, false}
use Rattle.lens_forms.specs.Forms.{FormTree, form_id, form_bij, form_disc, form_then, form_rec, form_alt, form_each}
use Rattle.lens_forms.specs.Forms.{form_keyed, form_ordered, form_part, form_inv}

-- an identity, a bijection or a disconnection
abbrev pub is_leaf : FormTree → Bool
is_leaf (form_id t) = true
is_leaf (form_bij ps n) = true
is_leaf (form_disc t u) = true
is_leaf (form_then l k) = false
is_leaf (form_rec rows) = false
is_leaf (form_alt arms) = false
is_leaf (form_each l) = false
is_leaf (form_keyed l) = false
is_leaf (form_ordered l) = false
is_leaf (form_part fs) = false
is_leaf (form_inv l) = false
