use Rattle.lens_forms.specs.Forms.{form_rec}
use Rattle.lens_types.proofs.NodeHeights.{record_heights}
use Rattle.lens_types.proofs.lenses.low_record.Goals as goal

pub returns : goal.returns
returns c = λ f h. c.low_sides.ensures (form_rec f) (record_heights f _ _ h c.container_heights.ensures.left c.container_heights.ensures.right)
