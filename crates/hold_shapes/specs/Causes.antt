-- Why an edit of a shape has no plan, and what a fault of the code says of it.
-- In order: `PlanCause` has the causes, and `IsRefusal`, at the end, is what a contract says of a fault.
use Rattle.std.specs.Prelude.{◌≡◌, Option, Some, None, Result, Err}
use Rattle.hold_shapes.specs.declared.plan.PlanFault.{PlanFault}
use Rattle.hold_shapes.specs.declared.plan.PlanFault.TheVariants as fault

-- the causes for which an edit has no plan
pub data PlanCause : Type 0 where
  Kind : PlanCause
  Place : PlanCause
  Range : PlanCause
  Present : PlanCause
  Length : PlanCause
  Deep : PlanCause

-- the cause that a fault reports; running out of memory reports none
abbrev pub plan_cause : PlanFault → Option PlanCause
plan_cause fault.Kind = Some Kind
plan_cause fault.Place = Some Place
plan_cause fault.Range = Some Range
plan_cause fault.Present = Some Present
plan_cause fault.Length = Some Length
plan_cause fault.Deep = Some Deep
plan_cause fault.NoMemory = None

-- there is no plan for this cause; without a cause, nothing is said
abbrev pub HasCause : {A : Type 0} → Result A PlanCause → Option PlanCause → Type 0
HasCause planned None = Unit {0}
HasCause planned (Some cause) = planned ≡ Err cause

-- a fault reports the cause for which there is no plan, or it is running out of memory
abbrev pub IsRefusal : {A : Type 0} → Result A PlanCause → PlanFault → Type 0
IsRefusal planned reported = HasCause planned (plan_cause reported)
