use Rattle.lens_types.specs.Earlier.{alternatives_form}
use Rattle.lens_types.proofs.NodeHeights.{alternatives_heights}
use Rattle.lens_types.proofs.lenses.low_alternatives.Goals as goal

pub returns : goal.returns
returns c = λ f h. c.low_sides.ensures (alternatives_form f) (alternatives_heights f _ _ h c.container_heights.ensures.left c.container_heights.ensures.right)
