-- What a plan of a reorder says of its order.
use Rattle.std.proofs.Common.{◌≡◌, ℕ, zero, suc, ◌<◌, Bool, true, false, ◌&&◌, List, [], ◌∷◌, length, map, Ok, Err, refl, arith}
use Rattle.std.specs.Prelude.{nat_eq, nat_lt, not, cond, slice_index}
use Rattle.std.proofs.lemmas.Bool.{ltb-true, eqb-true}
use Rattle.texts.proofs.Conjunction.{first, second}
use Rattle.hold_shapes.specs.declared.shape.Shape.{Shape}
use Rattle.hold_shapes.specs.declared.origins.Origin.{Origin}
use Rattle.hold_shapes.specs.declared.origins.Origin.TheVariants.{Old}
use Rattle.hold_shapes.specs.declared.edit.ShapeEdit.TheVariants.{Reorder}
use Rattle.hold_shapes.specs.Causes.{PlanCause, Range, Length}
use Rattle.hold_shapes.specs.Plans.{list_of, has_number, is_each_new, plan_list}

-- the test of an order
abbrev pub is_test : ℕ → List ℕ → Bool
is_test n f = nat_eq (length f) n && is_each_new n [] f

planned_test : (b c : Bool) (x p : Shape × List Origin) → cond b (cond c (Ok x) (Err Range)) (Err Length) ≡ Ok p → (b && c) ≡ true
planned_test true true x p e = refl
planned_test true false x p e = cc
planned_test false c x p e = cc

refused_test : (b c : Bool) (x : Shape × List Origin) (k : PlanCause) → cond b (cond c (Ok x) (Err Range)) (Err Length) ≡ Err k → (b && c) ≡ false
refused_test true true x k e = cc
refused_test true false x k e = refl
refused_test false c x k e = refl

pub order_planned : (n : ℕ) (f : List ℕ) (p : Shape × List Origin) → plan_list n (Reorder f) ≡ Ok p → is_test n f ≡ true
order_planned n f p e = planned_test (nat_eq (length f) n) (is_each_new n [] f) (list_of n, map Old f) p e

pub order_refused : (n : ℕ) (f : List ℕ) (k : PlanCause) → plan_list n (Reorder f) ≡ Err k → is_test n f ≡ false
order_refused n f k e = refused_test (nat_eq (length f) n) (is_each_new n [] f) (list_of n, map Old f) k e

pub test_each : (n : ℕ) (f : List ℕ) → is_test n f ≡ true → is_each_new n [] f ≡ true
test_each n f h = second (nat_eq (length f) n) (is_each_new n [] f) h

pub test_long : (n : ℕ) (f : List ℕ) → is_test n f ≡ true → length f ≡ n
test_long n f h = eqb-true (length f) n (first (nat_eq (length f) n) (is_each_new n [] f) h)

pub ruleset order_rules = (order_planned, order_refused, test_each, test_long)

-- ---- each place of an order is one of the list

below_before : (n : ℕ) (before f : List ℕ) (i : ℕ) → is_each_new n before f ≡ true → i < length f → slice_index f i < n
below_before n before [] i h l = absurd (omega arith)
below_before n before (x ∷ f) zero h l = ltb-true x n (first (nat_lt x n) (not (has_number x before) && is_each_new n (x ∷ before) f) h)
below_before n before (x ∷ f) (suc i) h l =
    below_before n (x ∷ before) f i
    (second (not (has_number x before)) (is_each_new n (x ∷ before) f) (second (nat_lt x n) (not (has_number x before) && is_each_new n (x ∷ before) f) h))
    (omega arith)

pub order_below : (n : ℕ) (f : List ℕ) (i : ℕ) → is_each_new n [] f ≡ true → i < length f → slice_index f i < n
order_below n f i h l = below_before n [] f i h l

pub ruleset below_rules = (order_below)
