use Rattle.hold_shapes.specs.Plans.{plan}
use Rattle.lens_core.specs.Complements.{comp_tree, comps_tree}
use Rattle.container_lens.proofs.begin.begin_reshaped.Goals as goal

pub returns-in-Err : goal.returns-in-Err
returns-in-Err c = c.no_plan.ensures (plan c.args.shape.now c.args.edit.now) (comp_tree c.args.start.now) (comps_tree c.args.comps.now) c.args.edit.now c.in-Err.ensures
