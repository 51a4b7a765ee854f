-- The parts of a form that is ready are ready, and have fewer parts.
use Rattle.std.proofs.Common.{◌≡◌, ℕ, zero, suc, ◌<◌, true, ◌&&◌, Some, arith}
use Rattle.texts.proofs.Conjunction.{first as first_and, second as second_and}
use Rattle.doc_values.specs.Types.{is_well_formed, are_distinct, are_choices, is_same_ty}
use Rattle.lens_forms.specs.Forms.{FormTree, form_then, form_rec, form_alt, RowTrees, no_rows, both, only_left, only_right, form_row_list, ArmTrees, no_arms, more_arms, left_type, right_type}
use Rattle.lens_forms.specs.Measures.{form_parts, rows_parts, arms_parts}
use Rattle.lens_forms.specs.Typing.{is_typed, are_typed_rows, are_typed_arms, left_names, right_names, left_arms, right_arms}
use Rattle.lens_branch.specs.AlternativeSteps.{arm_lens}
use Rattle.lens_branch.specs.RecordSteps.{row_lens}
use Rattle.lens_steps.specs.Ready.{IsReady}
use Rattle.lens_steps.specs.LawsOfForms.{choices_distinct}

-- ---- composition

pub ready_first : (l k : FormTree) → IsReady (form_then l k) → IsReady l
ready_first l k h =
    let small = h.1 in
    (first_and (is_typed l) (is_typed k) (first_and (is_typed l && is_typed k) (is_same_ty (right_type l) (left_type k)) h.0), omega (arith, small))

pub ready_second : (l k : FormTree) → IsReady (form_then l k) → IsReady k
ready_second l k h =
    let small = h.1 in
    (second_and (is_typed l) (is_typed k) (first_and (is_typed l && is_typed k) (is_same_ty (right_type l) (left_type k)) h.0), omega (arith, small))

-- ---- record

typed_row : (rows : RowTrees) (i : ℕ) (l : FormTree) → row_lens (form_row_list rows) i ≡ Some l → are_typed_rows rows ≡ true → is_typed l ≡ true
typed_row no_rows i l e h = cc
typed_row (both a b k rows) zero l e h = let first = first_and (is_typed k) (are_typed_rows rows) h in cc
typed_row (both a b k rows) (suc i) l e h = typed_row rows i l e (second_and (is_typed k) (are_typed_rows rows) h)
typed_row (only_left a t rows) i l e h = typed_row rows i l e (second_and (is_well_formed t) (are_typed_rows rows) h)
typed_row (only_right b t rows) i l e h = typed_row rows i l e (second_and (is_well_formed t) (are_typed_rows rows) h)

same_parts : (l k : FormTree) → Some k ≡ Some l → form_parts k ≡ form_parts l
same_parts l k e = cc

pub row_smaller : (rows : RowTrees) (i : ℕ) (l : FormTree) → row_lens (form_row_list rows) i ≡ Some l → form_parts l < rows_parts rows
row_smaller no_rows i l e = cc
row_smaller (both a b k rows) zero l e = omega (arith, same_parts l k e)
row_smaller (both a b k rows) (suc i) l e = let rest : form_parts l < rows_parts rows = row_smaller rows i l e in omega (arith, rest)
row_smaller (only_left a t rows) i l e = let rest : form_parts l < rows_parts rows = row_smaller rows i l e in omega (arith, rest)
row_smaller (only_right b t rows) i l e = let rest : form_parts l < rows_parts rows = row_smaller rows i l e in omega (arith, rest)

-- the lens of a row
pub ready_row : (rows : RowTrees) (i : ℕ) (l : FormTree) → row_lens (form_row_list rows) i ≡ Some l → IsReady (form_rec rows) → IsReady l
ready_row rows i l e h =
    let small = h.1 in
    (typed_row rows i l e (first_and (are_typed_rows rows) (are_distinct (left_names rows) && are_distinct (right_names rows)) h.0), omega (arith, small, row_smaller rows i l e))

-- ---- alternatives

typed_arm : (arms : ArmTrees) (i : ℕ) (l : FormTree) → arm_lens arms i ≡ Some l → are_typed_arms arms ≡ true → is_typed l ≡ true
typed_arm no_arms i l e h = cc
typed_arm (more_arms a b k arms) zero l e h = let first = first_and (is_typed k) (are_typed_arms arms) h in cc
typed_arm (more_arms a b k arms) (suc i) l e h = typed_arm arms i l e (second_and (is_typed k) (are_typed_arms arms) h)

pub arm_smaller : (arms : ArmTrees) (i : ℕ) (l : FormTree) → arm_lens arms i ≡ Some l → form_parts l < arms_parts arms
arm_smaller no_arms i l e = cc
arm_smaller (more_arms a b k arms) zero l e = omega (arith, same_parts l k e)
arm_smaller (more_arms a b k arms) (suc i) l e = let rest : form_parts l < arms_parts arms = arm_smaller arms i l e in omega (arith, rest)

-- the lens of an arm
pub ready_arm : (arms : ArmTrees) (i : ℕ) (l : FormTree) → arm_lens arms i ≡ Some l → IsReady (form_alt arms) → IsReady l
ready_arm arms i l e h =
    let small = h.1 in
    (typed_arm arms i l e (first_and (are_typed_arms arms) (are_choices (left_arms arms) && are_choices (right_arms arms)) h.0), omega (arith, small, arm_smaller arms i l e))

-- the tags of each side are distinct
pub left_apart : (arms : ArmTrees) → IsReady (form_alt arms) → are_distinct (left_arms arms) ≡ true
left_apart arms h =
    choices_distinct (left_arms arms)
    (first_and (are_choices (left_arms arms)) (are_choices (right_arms arms)) (second_and (are_typed_arms arms) (are_choices (left_arms arms) && are_choices (right_arms arms)) h.0))

pub right_apart : (arms : ArmTrees) → IsReady (form_alt arms) → are_distinct (right_arms arms) ≡ true
right_apart arms h =
    choices_distinct (right_arms arms)
    (second_and (are_choices (left_arms arms)) (are_choices (right_arms arms)) (second_and (are_typed_arms arms) (are_choices (left_arms arms) && are_choices (right_arms arms)) h.0))
