use Rattle.hold_shapes.specs.Plans.{plan_list}
use Rattle.bridge_core.proofs.list_carrying.with_plan.Goals as goal

pub returns-in-Err : goal.returns-in-Err
returns-in-Err c = c.plan_refusal.ensures (plan_list c.args.size c.args.edit.now) _ _ c.in-Err.ensures
