use Rattle.lens_forms.specs.Forms.{form_inv}
use Rattle.lens_types.proofs.lenses.low_inverse.Goals as goal

pub returns : goal.returns
returns c = λ f h. c.low_sides.ensures (form_inv f) (h.1, h.0)
