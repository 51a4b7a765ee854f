use Rattle.std.proofs.Common.{refl}
use Rattle.lens_forms.specs.Forms.{form_bij}
use Rattle.lens_types.proofs.lenses.checked_bijection.Goals as goal

pub returns : goal.returns
returns c = rw c.in_ok-check_pairs.ensures (c.low_sides.ensures (form_bij c.args.pairs.now c.args.value.now) (refl, refl))
