use Rattle.lens_forms.specs.Forms.{form_then}
use Rattle.lens_types.proofs.lenses.low_composition.Goals as goal

pub returns : goal.returns
returns c = λ l k h g. c.low_sides.ensures (form_then l k) (h.0, g.1)
