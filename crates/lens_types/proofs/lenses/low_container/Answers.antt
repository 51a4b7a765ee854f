use Rattle.lens_forms.specs.Forms.{form_each}
use Rattle.lens_types.proofs.NodeHeights.{container_heights}
use Rattle.lens_types.proofs.lenses.low_container.Goals as goal

pub returns : goal.returns
returns c = λ f h. c.low_sides.ensures (form_each f) (container_heights f _ _ h c.container_heights.ensures.left c.container_heights.ensures.right)
