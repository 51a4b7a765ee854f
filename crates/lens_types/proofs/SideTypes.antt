-- The type of a side, for both sides at once, is the left or the right type.
use Rattle.std.proofs.Common.{◌≡◌, ℕ, true, false, nat_eq, List, [], ◌∷◌, length, map, take, Some, None, refl, ap, ap₂, sym, ◌∙◌}
use Rattle.std.specs.Prelude.{if◌then◌else◌}
use Rattle.doc_values.specs.Types.{TyTree, ty_rec, ty_alt, ty_list, ty_keyed, ty_ordered, more_fields, type_fields_of, field_tree, is_same_ty}
use Rattle.doc_values.specs.declared.ty.Ty.{Ty}
use Rattle.program_terms.specs.Terms.{LensTree}
use Rattle.lens_forms.specs.Forms.{FormTree, form_id, form_bij, form_disc, form_then, form_rec, form_alt, form_each, form_keyed, form_ordered, form_part, form_inv, RowTrees, no_rows, both, only_left, only_right, ArmTrees, no_arms, more_arms, insert_field, sorted, lists_of, left_type, right_type, left_fields, right_fields, left_tags, right_tags}
use Rattle.lens_types.specs.SideTypes.{type_on, fields_on, tags_on}
use Rattle.lens_types.specs.Earlier.{expanded_form, partition}
use Rattle.lens_types.specs.Checking.{middle_differs, middle_failure}
use Rattle.lens_types.specs.Entries.{earlier_tree}
use Rattle.lens_types.specs.declared.known.Known.{Known}
use Rattle.lens_types.proofs.Entries.{all_of}
use Rattle.texts.specs.declared.side.Side.TheVariants.{Left, Right}

mutual
  pub type_on-left : (f : FormTree) → type_on Left f ≡ left_type f
  type_on-left (form_id t) = refl
  type_on-left (form_bij ps v) = refl
  type_on-left (form_disc t u) = refl
  type_on-left (form_then l k) = type_on-left l
  type_on-left (form_rec rows) = ap ty_rec (fields_on-left rows)
  type_on-left (form_alt arms) = ap ty_alt (tags_on-left arms)
  type_on-left (form_each l) = ap ty_list (type_on-left l)
  type_on-left (form_keyed l) = ap ty_keyed (type_on-left l)
  type_on-left (form_ordered l) = ap ty_ordered (type_on-left l)
  type_on-left (form_part fs) = refl
  type_on-left (form_inv l) = type_on-right l

  pub type_on-right : (f : FormTree) → type_on Right f ≡ right_type f
  type_on-right (form_id t) = refl
  type_on-right (form_bij ps v) = refl
  type_on-right (form_disc t u) = refl
  type_on-right (form_then l k) = type_on-right k
  type_on-right (form_rec rows) = ap ty_rec (fields_on-right rows)
  type_on-right (form_alt arms) = ap ty_alt (tags_on-right arms)
  type_on-right (form_each l) = ap ty_list (type_on-right l)
  type_on-right (form_keyed l) = ap ty_keyed (type_on-right l)
  type_on-right (form_ordered l) = ap ty_ordered (type_on-right l)
  type_on-right (form_part fs) = refl
  type_on-right (form_inv l) = type_on-left l

  fields_on-left : (rows : RowTrees) → sorted (fields_on Left rows) ≡ left_fields rows
  fields_on-left no_rows = refl
  fields_on-left (both a b l rows) = ap₂ (insert_field a) (type_on-left l) (fields_on-left rows)
  fields_on-left (only_left a t rows) = ap (insert_field a t) (fields_on-left rows)
  fields_on-left (only_right b t rows) = fields_on-left rows

  fields_on-right : (rows : RowTrees) → sorted (fields_on Right rows) ≡ right_fields rows
  fields_on-right no_rows = refl
  fields_on-right (both a b l rows) = ap₂ (insert_field b) (type_on-right l) (fields_on-right rows)
  fields_on-right (only_left a t rows) = fields_on-right rows
  fields_on-right (only_right b t rows) = ap (insert_field b t) (fields_on-right rows)

  tags_on-left : (arms : ArmTrees) → tags_on Left arms ≡ left_tags arms
  tags_on-left no_arms = refl
  tags_on-left (more_arms a b l arms) = ap₂ (more_fields a) (type_on-left l) (tags_on-left arms)

  tags_on-right : (arms : ArmTrees) → tags_on Right arms ≡ right_tags arms
  tags_on-right no_arms = refl
  tags_on-right (more_arms a b l arms) = ap₂ (more_fields b) (type_on-right l) (tags_on-right arms)

-- ---- the two sides of a partition of something

pub left_partition : (fs : List (List ℕ × Ty)) → nat_eq (length fs) 0 ≡ false
    → type_on Left (partition (type_fields_of (map field_tree fs))) ≡ ty_list (ty_alt (type_fields_of (map field_tree fs)))
left_partition [] h = cc
left_partition (f ∷ fs) h = refl

pub right_partition : (fs : List (List ℕ × Ty)) → nat_eq (length fs) 0 ≡ false
    → type_on Right (partition (type_fields_of (map field_tree fs))) ≡ ty_rec (sorted (lists_of (type_fields_of (map field_tree fs))))
right_partition [] h = cc
right_partition (f ∷ fs) h = refl

-- ---- the types of a lens among all definitions

pub left_side : (es : List (List ℕ × Known)) (scope : ℕ) (l : LensTree) (t : TyTree) → scope ≡ length es
    → t ≡ type_on Left (expanded_form (take scope (earlier_tree es)) l) → t ≡ left_type (expanded_form (earlier_tree es) l)
left_side es scope l t h e =
    e ∙ ap (λ ds. type_on Left (expanded_form ds l)) (all_of es scope h) ∙ type_on-left (expanded_form (earlier_tree es) l)

pub right_side : (es : List (List ℕ × Known)) (scope : ℕ) (l : LensTree) (t : TyTree) → scope ≡ length es
    → t ≡ type_on Right (expanded_form (take scope (earlier_tree es)) l) → t ≡ right_type (expanded_form (earlier_tree es) l)
right_side es scope l t h e =
    e ∙ ap (λ ds. type_on Right (expanded_form ds l)) (all_of es scope h) ∙ type_on-right (expanded_form (earlier_tree es) l)

-- ---- the middle types of a composition

pub same_middles : (l k : FormTree) (t u : TyTree) → t ≡ right_type l → u ≡ left_type k → is_same_ty t u ≡ true → middle_failure l k ≡ None
same_middles l k t u e f h =
    ap₂ (λ x y. if is_same_ty x y then None else Some (middle_differs x y)) (sym e) (sym f) ∙ ap (λ b. if b then None else Some (middle_differs t u)) h

pub other_middles : (l k : FormTree) (t u : TyTree) → t ≡ right_type l → u ≡ left_type k → is_same_ty t u ≡ false → middle_failure l k ≡ Some (middle_differs t u)
other_middles l k t u e f h =
    ap₂ (λ x y. if is_same_ty x y then None else Some (middle_differs x y)) (sym e) (sym f) ∙ ap (λ b. if b then None else Some (middle_differs t u)) h
