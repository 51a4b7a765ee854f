use Rattle.std.proofs.Common.{subst}
use Rattle.hold_shapes.specs.Plans.{plan_list}
use Rattle.bridge_lists.specs.Refusals.{IsCarryRefusal}
use Rattle.bridge_core.proofs.list_carrying.refusal.Goals as goal

pub returns-in-NoPlan : goal.returns-in-NoPlan
returns-in-NoPlan c = λ n e o bs h. c.plan_refusal.ensures (plan_list n e) o bs (subst (λ f. IsCarryRefusal n e o f) c.in-NoPlan.is h)
