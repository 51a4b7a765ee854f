-- What a refusal of a carried edit says. In order: of a plan, of a move, of any edit.
use Rattle.std.specs.Prelude.{◌≡◌, ℕ, Option, None, Result, IsOk}
use Rattle.hold_shapes.specs.declared.edit.ShapeEdit.{ShapeEdit}
use Rattle.hold_shapes.specs.declared.plan.PlanFault.TheVariants.{NoMemory}
use Rattle.hold_shapes.specs.Causes.{PlanCause, IsRefusal}
use Rattle.hold_shapes.specs.Plans.{plan_list}
use Rattle.bridge_lists.specs.declared.carry.CarryFault.{CarryFault}
use Rattle.bridge_lists.specs.declared.carry.CarryFault.TheVariants.{Gone, NoPlan}

-- there is no plan, for the cause that the fault has, or memory ran out
abbrev pub IsPlanRefusal : {A : Type 0} → Result A PlanCause → CarryFault → Type 0
IsPlanRefusal planned Gone = ⊥
IsPlanRefusal planned (NoPlan fault) = IsRefusal planned fault

-- nothing is carried of a move that has a plan, or memory ran out
abbrev pub IsMoveRefusal : {A : Type 0} → Option A → CarryFault → Type 0
IsMoveRefusal answer Gone = answer ≡ None
IsMoveRefusal answer (NoPlan fault) = fault ≡ NoMemory

-- nothing is carried of an edit that has a plan for n items; or it has none, for the cause that the fault has; or
-- memory ran out
abbrev pub IsCarryRefusal : {A : Type 0} → ℕ → ShapeEdit → Option A → CarryFault → Type 0
IsCarryRefusal n e answer Gone = IsOk (plan_list n e) × (answer ≡ None)
IsCarryRefusal n e answer (NoPlan fault) = IsRefusal (plan_list n e) fault
