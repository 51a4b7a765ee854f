-- The test of typing, typing, and the types of what is typed.
use Rattle.std.proofs.Common.{◌≡◌, ℕ, true, ◌&&◌, List, [], ◌∷◌, refl, ap, ap₂, sym, ◌∙◌, subst}
use Rattle.texts.specs.Keys.{is_rising, has_name}
use Rattle.doc_values.specs.Types.{TyTree, ty_rec, ty_alt, ty_list, ty_keyed, ty_ordered, FieldTrees, no_fields, more_fields, names_of, are_distinct, are_choices, is_well_formed, are_well_formed, is_same_ty}
use Rattle.doc_values.proofs.SameTypes.{is_same_ty-equal, is_same_ty-refl}
use Rattle.doc_values.proofs.DistinctNames.{are_distinct-rest, are_choices-distinct}
use Rattle.texts.proofs.Conjunction.{both as both_true, first as first_and, second as second_and}
use Rattle.lens_forms.specs.Forms.{FormTree, form_id, form_bij, form_disc, form_then, form_rec, form_alt, form_each, form_keyed, form_ordered, form_part, form_inv, RowTrees, no_rows, both, only_left, only_right, ArmTrees, no_arms, more_arms, lefts, rights, insert_field, sorted, lists_of, left_type, right_type, left_fields, right_fields, left_tags, right_tags}
use Rattle.lens_forms.specs.Typing.{IsTyped, AreTypedRows, AreTypedArms, is_typed, are_typed_rows, are_typed_arms, left_names, right_names, left_arms, right_arms}
use Rattle.lens_forms.proofs.Partners.{partner_among}
use Rattle.lens_forms.proofs.SortedFields.{inserted, inserted_names, sorted-rising, sorted-well_formed, well_formed-insert}

-- ---- what the test says, typing says of the two types

mutual
  pub typed_is : (f : FormTree) → is_typed f ≡ true → IsTyped f (left_type f) (right_type f)
  typed_is (form_id t) h = (h, refl, refl)
  typed_is (form_bij ps n) h =
      let rest = second_and (are_choices (lefts ps)) (are_choices (rights ps) && has_name n (lefts ps)) h in (
        first_and (are_choices (lefts ps)) (are_choices (rights ps) && has_name n (lefts ps)) h,
        first_and (are_choices (rights ps)) (has_name n (lefts ps)) rest,
        second_and (are_choices (rights ps)) (has_name n (lefts ps)) rest,
        refl,
        refl,
      )
  typed_is (form_disc t u) h = (first_and (is_well_formed t) (is_well_formed u) h, second_and (is_well_formed t) (is_well_formed u) h, refl, refl)
  typed_is (form_then l k) h =
      let parts = first_and (is_typed l && is_typed k) (is_same_ty (right_type l) (left_type k)) h in
      let same : right_type l ≡ left_type k = is_same_ty-equal _ _ (second_and (is_typed l && is_typed k) (is_same_ty (right_type l) (left_type k)) h) in
      let P : TyTree → Type 0 = λ m. IsTyped k m (right_type k) in
      (right_type l, typed_is l (first_and (is_typed l) (is_typed k) parts), subst P (sym same) (typed_is k (second_and (is_typed l) (is_typed k) parts)))
  typed_is (form_rec rows) h =
      let names = second_and (are_typed_rows rows) (are_distinct (left_names rows) && are_distinct (right_names rows)) h in (
        left_fields rows,
        right_fields rows,
        typed_rows_are rows (first_and (are_typed_rows rows) (are_distinct (left_names rows) && are_distinct (right_names rows)) h),
        first_and (are_distinct (left_names rows)) (are_distinct (right_names rows)) names,
        second_and (are_distinct (left_names rows)) (are_distinct (right_names rows)) names,
        refl,
        refl,
      )
  typed_is (form_alt arms) h =
      let names = second_and (are_typed_arms arms) (are_choices (left_arms arms) && are_choices (right_arms arms)) h in (
        left_tags arms,
        right_tags arms,
        typed_arms_are arms (first_and (are_typed_arms arms) (are_choices (left_arms arms) && are_choices (right_arms arms)) h),
        first_and (are_choices (left_arms arms)) (are_choices (right_arms arms)) names,
        second_and (are_choices (left_arms arms)) (are_choices (right_arms arms)) names,
        refl,
        refl,
      )
  typed_is (form_each l) h = (left_type l, right_type l, typed_is l h, refl, refl)
  typed_is (form_keyed l) h = (left_type l, right_type l, typed_is l h, refl, refl)
  typed_is (form_ordered l) h = (left_type l, right_type l, typed_is l h, refl, refl)
  typed_is (form_part fs) h = (first_and (are_choices (names_of fs)) (are_well_formed fs) h, second_and (are_choices (names_of fs)) (are_well_formed fs) h, refl, refl)
  typed_is (form_inv l) h = typed_is l h

  typed_rows_are : (rows : RowTrees) → are_typed_rows rows ≡ true → AreTypedRows rows (left_fields rows) (right_fields rows)
  typed_rows_are no_rows h = (refl, refl)
  typed_rows_are (both a b l rows) h = (
    left_type l,
    right_type l,
    left_fields rows,
    right_fields rows,
    typed_is l (first_and (is_typed l) (are_typed_rows rows) h),
    typed_rows_are rows (second_and (is_typed l) (are_typed_rows rows) h),
    refl,
    refl,
  )
  typed_rows_are (only_left a t rows) h =
      (left_fields rows, first_and (is_well_formed t) (are_typed_rows rows) h, typed_rows_are rows (second_and (is_well_formed t) (are_typed_rows rows) h), refl)
  typed_rows_are (only_right b t rows) h =
      (right_fields rows, first_and (is_well_formed t) (are_typed_rows rows) h, typed_rows_are rows (second_and (is_well_formed t) (are_typed_rows rows) h), refl)

  typed_arms_are : (arms : ArmTrees) → are_typed_arms arms ≡ true → AreTypedArms arms (left_tags arms) (right_tags arms)
  typed_arms_are no_arms h = (refl, refl)
  typed_arms_are (more_arms a b l arms) h = (
    left_type l,
    right_type l,
    left_tags arms,
    right_tags arms,
    typed_is l (first_and (is_typed l) (are_typed_arms arms) h),
    typed_arms_are arms (second_and (is_typed l) (are_typed_arms arms) h),
    refl,
    refl,
  )

-- ---- typing is functional: a form that is typed goes from its left type to its right type

mutual
  pub typed_types : (f : FormTree) (left right : TyTree) → IsTyped f left right → (left ≡ left_type f) × (right ≡ right_type f)
  typed_types (form_id t) left right h = (h.1, h.2)
  typed_types (form_bij ps n) left right h = (h.3, h.4)
  typed_types (form_disc t u) left right h = (h.2, h.3)
  typed_types (form_then l k) left right h = ((typed_types l left h.0 h.1).0, (typed_types k h.0 right h.2).1)
  typed_types (form_rec rows) left right h =
      let fields = typed_row_fields rows h.0 h.1 h.2 in
      (h.5 ∙ ap ty_rec fields.0, h.6 ∙ ap ty_rec fields.1)
  typed_types (form_alt arms) left right h =
      let tags = typed_arm_tags arms h.0 h.1 h.2 in
      (h.5 ∙ ap ty_alt tags.0, h.6 ∙ ap ty_alt tags.1)
  typed_types (form_each l) left right h = let inner = typed_types l h.0 h.1 h.2 in (h.3 ∙ ap ty_list inner.0, h.4 ∙ ap ty_list inner.1)
  typed_types (form_keyed l) left right h = let inner = typed_types l h.0 h.1 h.2 in (h.3 ∙ ap ty_keyed inner.0, h.4 ∙ ap ty_keyed inner.1)
  typed_types (form_ordered l) left right h = let inner = typed_types l h.0 h.1 h.2 in (h.3 ∙ ap ty_ordered inner.0, h.4 ∙ ap ty_ordered inner.1)
  typed_types (form_part fs) left right h = (h.2, h.3)
  typed_types (form_inv l) left right h = let inner = typed_types l right left h in (inner.1, inner.0)

  typed_row_fields : (rows : RowTrees) (ls rs : FieldTrees) → AreTypedRows rows ls rs → (ls ≡ left_fields rows) × (rs ≡ right_fields rows)
  typed_row_fields no_rows ls rs h = h
  typed_row_fields (both a b l rows) ls rs h =
      let inner = typed_types l h.0 h.1 h.4 in
      let rest = typed_row_fields rows h.2 h.3 h.5 in
      (h.6 ∙ ap₂ (insert_field a) inner.0 rest.0, h.7 ∙ ap₂ (insert_field b) inner.1 rest.1)
  typed_row_fields (only_left a t rows) ls rs h =
      let rest = typed_row_fields rows h.0 rs h.2 in (h.3 ∙ ap (insert_field a t) rest.0, rest.1)
  typed_row_fields (only_right b t rows) ls rs h =
      let rest = typed_row_fields rows ls h.0 h.2 in (rest.0, h.3 ∙ ap (insert_field b t) rest.1)

  typed_arm_tags : (arms : ArmTrees) (ls rs : FieldTrees) → AreTypedArms arms ls rs → (ls ≡ left_tags arms) × (rs ≡ right_tags arms)
  typed_arm_tags no_arms ls rs h = h
  typed_arm_tags (more_arms a b l arms) ls rs h =
      let inner = typed_types l h.0 h.1 h.4 in
      let rest = typed_arm_tags arms h.2 h.3 h.5 in
      (h.6 ∙ ap₂ (more_fields a) inner.0 rest.0, h.7 ∙ ap₂ (more_fields b) inner.1 rest.1)

-- ---- what is typed passes the test

mutual
  pub typed_passes : (f : FormTree) (left right : TyTree) → IsTyped f left right → is_typed f ≡ true
  typed_passes (form_id t) left right h = h.0
  typed_passes (form_bij ps n) left right h = both_true _ _ h.0 (both_true _ _ h.1 h.2)
  typed_passes (form_disc t u) left right h = both_true _ _ h.0 h.1
  typed_passes (form_then l k) left right h =
      let same : right_type l ≡ left_type k = sym (typed_types l left h.0 h.1).1 ∙ (typed_types k h.0 right h.2).0 in
      let P : TyTree → Type 0 = λ t. is_same_ty (right_type l) t ≡ true in
      both_true _ _ (both_true _ _ (typed_passes l left h.0 h.1) (typed_passes k h.0 right h.2)) (subst P same (is_same_ty-refl (right_type l)))
  typed_passes (form_rec rows) left right h = both_true _ _ (typed_rows_pass rows h.0 h.1 h.2) (both_true _ _ h.3 h.4)
  typed_passes (form_alt arms) left right h = both_true _ _ (typed_arms_pass arms h.0 h.1 h.2) (both_true _ _ h.3 h.4)
  typed_passes (form_each l) left right h = typed_passes l h.0 h.1 h.2
  typed_passes (form_keyed l) left right h = typed_passes l h.0 h.1 h.2
  typed_passes (form_ordered l) left right h = typed_passes l h.0 h.1 h.2
  typed_passes (form_part fs) left right h = both_true _ _ h.0 h.1
  typed_passes (form_inv l) left right h = typed_passes l right left h

  typed_rows_pass : (rows : RowTrees) (ls rs : FieldTrees) → AreTypedRows rows ls rs → are_typed_rows rows ≡ true
  typed_rows_pass no_rows ls rs h = refl
  typed_rows_pass (both a b l rows) ls rs h = both_true _ _ (typed_passes l h.0 h.1 h.4) (typed_rows_pass rows h.2 h.3 h.5)
  typed_rows_pass (only_left a t rows) ls rs h = both_true _ _ h.1 (typed_rows_pass rows h.0 rs h.2)
  typed_rows_pass (only_right b t rows) ls rs h = both_true _ _ h.1 (typed_rows_pass rows ls h.0 h.2)

  typed_arms_pass : (arms : ArmTrees) (ls rs : FieldTrees) → AreTypedArms arms ls rs → are_typed_arms arms ≡ true
  typed_arms_pass no_arms ls rs h = refl
  typed_arms_pass (more_arms a b l arms) ls rs h = both_true _ _ (typed_passes l h.0 h.1 h.4) (typed_arms_pass arms h.2 h.3 h.5)

-- ---- the types of what is typed are well formed

left_fields-names : (rows : RowTrees) (k : List ℕ) → has_name k (names_of (left_fields rows)) ≡ has_name k (left_names rows)
left_fields-names no_rows k = refl
left_fields-names (both a b l rows) k = inserted_names a (left_type l) (left_fields rows) (left_names rows) (left_fields-names rows) k
left_fields-names (only_left a t rows) k = inserted_names a t (left_fields rows) (left_names rows) (left_fields-names rows) k
left_fields-names (only_right b t rows) k = left_fields-names rows k

right_fields-names : (rows : RowTrees) (k : List ℕ) → has_name k (names_of (right_fields rows)) ≡ has_name k (right_names rows)
right_fields-names no_rows k = refl
right_fields-names (both a b l rows) k = inserted_names b (right_type l) (right_fields rows) (right_names rows) (right_fields-names rows) k
right_fields-names (only_left a t rows) k = right_fields-names rows k
right_fields-names (only_right b t rows) k = inserted_names b t (right_fields rows) (right_names rows) (right_fields-names rows) k

left_fields-rising : (rows : RowTrees) → are_distinct (left_names rows) ≡ true → is_rising (names_of (left_fields rows)) ≡ true
left_fields-rising no_rows h = refl
left_fields-rising (both a b l rows) h =
    inserted a (left_type l) (left_fields rows) (left_names rows) (left_fields-names rows) h (left_fields-rising rows (are_distinct-rest a (left_names rows) h))
left_fields-rising (only_left a t rows) h =
    inserted a t (left_fields rows) (left_names rows) (left_fields-names rows) h (left_fields-rising rows (are_distinct-rest a (left_names rows) h))
left_fields-rising (only_right b t rows) h = left_fields-rising rows h

right_fields-rising : (rows : RowTrees) → are_distinct (right_names rows) ≡ true → is_rising (names_of (right_fields rows)) ≡ true
right_fields-rising no_rows h = refl
right_fields-rising (both a b l rows) h =
    inserted b (right_type l) (right_fields rows) (right_names rows) (right_fields-names rows) h (right_fields-rising rows (are_distinct-rest b (right_names rows) h))
right_fields-rising (only_left a t rows) h = right_fields-rising rows h
right_fields-rising (only_right b t rows) h =
    inserted b t (right_fields rows) (right_names rows) (right_fields-names rows) h (right_fields-rising rows (are_distinct-rest b (right_names rows) h))

left_tags-names : (arms : ArmTrees) → names_of (left_tags arms) ≡ left_arms arms
left_tags-names no_arms = refl
left_tags-names (more_arms a b l arms) = ap (λ ns. a ∷ ns) (left_tags-names arms)

right_tags-names : (arms : ArmTrees) → names_of (right_tags arms) ≡ right_arms arms
right_tags-names no_arms = refl
right_tags-names (more_arms a b l arms) = ap (λ ns. b ∷ ns) (right_tags-names arms)

lists_of-names : (fs : FieldTrees) → names_of (lists_of fs) ≡ names_of fs
lists_of-names no_fields = refl
lists_of-names (more_fields n t fs) = ap (λ ns. n ∷ ns) (lists_of-names fs)

lists_of-well_formed : (fs : FieldTrees) → are_well_formed fs ≡ true → are_well_formed (lists_of fs) ≡ true
lists_of-well_formed no_fields h = refl
lists_of-well_formed (more_fields n t fs) h =
    both_true _ _ (first_and (is_well_formed t) (are_well_formed fs) h) (lists_of-well_formed fs (second_and (is_well_formed t) (are_well_formed fs) h))

parts_formed : (fs : FieldTrees) → (are_choices (names_of fs) && are_well_formed fs) ≡ true → is_well_formed (ty_rec (sorted (lists_of fs))) ≡ true
parts_formed fs h =
    let P : List (List ℕ) → Type 0 = λ ns. are_distinct ns ≡ true in
    both_true _ _
    (sorted-rising (lists_of fs) (subst P (sym (lists_of-names fs)) (are_choices-distinct (names_of fs) (first_and (are_choices (names_of fs)) (are_well_formed fs) h))))
    (sorted-well_formed (lists_of fs) (lists_of-well_formed fs (second_and (are_choices (names_of fs)) (are_well_formed fs) h)))

mutual
  pub left_formed : (f : FormTree) → is_typed f ≡ true → is_well_formed (left_type f) ≡ true
  left_formed (form_id t) h = h
  left_formed (form_bij ps n) h =
      both_true _ _ (first_and (are_choices (lefts ps)) (are_choices (rights ps) && has_name n (lefts ps)) h)
      (second_and (are_choices (rights ps)) (has_name n (lefts ps)) (second_and (are_choices (lefts ps)) (are_choices (rights ps) && has_name n (lefts ps)) h))
  left_formed (form_disc t u) h = first_and (is_well_formed t) (is_well_formed u) h
  left_formed (form_then l k) h = left_formed l (first_and (is_typed l) (is_typed k) (first_and (is_typed l && is_typed k) (is_same_ty (right_type l) (left_type k)) h))
  left_formed (form_rec rows) h =
      let names = second_and (are_typed_rows rows) (are_distinct (left_names rows) && are_distinct (right_names rows)) h in
      both_true _ _ (left_fields-rising rows (first_and (are_distinct (left_names rows)) (are_distinct (right_names rows)) names))
      (left_fields_formed rows (first_and (are_typed_rows rows) (are_distinct (left_names rows) && are_distinct (right_names rows)) h))
  left_formed (form_alt arms) h =
      let names = second_and (are_typed_arms arms) (are_choices (left_arms arms) && are_choices (right_arms arms)) h in
      let P : List (List ℕ) → Type 0 = λ ns. are_choices ns ≡ true in
      both_true _ _ (subst P (sym (left_tags-names arms)) (first_and (are_choices (left_arms arms)) (are_choices (right_arms arms)) names))
      (left_tags_formed arms (first_and (are_typed_arms arms) (are_choices (left_arms arms) && are_choices (right_arms arms)) h))
  left_formed (form_each l) h = left_formed l h
  left_formed (form_keyed l) h = left_formed l h
  left_formed (form_ordered l) h = left_formed l h
  left_formed (form_part fs) h = h
  left_formed (form_inv l) h = right_formed l h

  pub right_formed : (f : FormTree) → is_typed f ≡ true → is_well_formed (right_type f) ≡ true
  right_formed (form_id t) h = h
  right_formed (form_bij ps n) h =
      let rest = second_and (are_choices (lefts ps)) (are_choices (rights ps) && has_name n (lefts ps)) h in
      both_true _ _ (first_and (are_choices (rights ps)) (has_name n (lefts ps)) rest) (partner_among ps n (second_and (are_choices (rights ps)) (has_name n (lefts ps)) rest))
  right_formed (form_disc t u) h = second_and (is_well_formed t) (is_well_formed u) h
  right_formed (form_then l k) h = right_formed k (second_and (is_typed l) (is_typed k) (first_and (is_typed l && is_typed k) (is_same_ty (right_type l) (left_type k)) h))
  right_formed (form_rec rows) h =
      let names = second_and (are_typed_rows rows) (are_distinct (left_names rows) && are_distinct (right_names rows)) h in
      both_true _ _ (right_fields-rising rows (second_and (are_distinct (left_names rows)) (are_distinct (right_names rows)) names))
      (right_fields_formed rows (first_and (are_typed_rows rows) (are_distinct (left_names rows) && are_distinct (right_names rows)) h))
  right_formed (form_alt arms) h =
      let names = second_and (are_typed_arms arms) (are_choices (left_arms arms) && are_choices (right_arms arms)) h in
      let P : List (List ℕ) → Type 0 = λ ns. are_choices ns ≡ true in
      both_true _ _ (subst P (sym (right_tags-names arms)) (second_and (are_choices (left_arms arms)) (are_choices (right_arms arms)) names))
      (right_tags_formed arms (first_and (are_typed_arms arms) (are_choices (left_arms arms) && are_choices (right_arms arms)) h))
  right_formed (form_each l) h = right_formed l h
  right_formed (form_keyed l) h = right_formed l h
  right_formed (form_ordered l) h = right_formed l h
  right_formed (form_part fs) h = parts_formed fs h
  right_formed (form_inv l) h = left_formed l h

  left_fields_formed : (rows : RowTrees) → are_typed_rows rows ≡ true → are_well_formed (left_fields rows) ≡ true
  left_fields_formed no_rows h = refl
  left_fields_formed (both a b l rows) h =
      well_formed-insert a (left_type l) (left_fields rows) (left_formed l (first_and (is_typed l) (are_typed_rows rows) h)) (left_fields_formed rows (second_and (is_typed l) (are_typed_rows rows) h))
  left_fields_formed (only_left a t rows) h =
      well_formed-insert a t (left_fields rows) (first_and (is_well_formed t) (are_typed_rows rows) h) (left_fields_formed rows (second_and (is_well_formed t) (are_typed_rows rows) h))
  left_fields_formed (only_right b t rows) h = left_fields_formed rows (second_and (is_well_formed t) (are_typed_rows rows) h)

  right_fields_formed : (rows : RowTrees) → are_typed_rows rows ≡ true → are_well_formed (right_fields rows) ≡ true
  right_fields_formed no_rows h = refl
  right_fields_formed (both a b l rows) h =
      well_formed-insert b (right_type l) (right_fields rows) (right_formed l (first_and (is_typed l) (are_typed_rows rows) h)) (right_fields_formed rows (second_and (is_typed l) (are_typed_rows rows) h))
  right_fields_formed (only_left a t rows) h = right_fields_formed rows (second_and (is_well_formed t) (are_typed_rows rows) h)
  right_fields_formed (only_right b t rows) h =
      well_formed-insert b t (right_fields rows) (first_and (is_well_formed t) (are_typed_rows rows) h) (right_fields_formed rows (second_and (is_well_formed t) (are_typed_rows rows) h))

  left_tags_formed : (arms : ArmTrees) → are_typed_arms arms ≡ true → are_well_formed (left_tags arms) ≡ true
  left_tags_formed no_arms h = refl
  left_tags_formed (more_arms a b l arms) h =
      both_true _ _ (left_formed l (first_and (is_typed l) (are_typed_arms arms) h)) (left_tags_formed arms (second_and (is_typed l) (are_typed_arms arms) h))

  right_tags_formed : (arms : ArmTrees) → are_typed_arms arms ≡ true → are_well_formed (right_tags arms) ≡ true
  right_tags_formed no_arms h = refl
  right_tags_formed (more_arms a b l arms) h =
      both_true _ _ (right_formed l (first_and (is_typed l) (are_typed_arms arms) h)) (right_tags_formed arms (second_and (is_typed l) (are_typed_arms arms) h))

pub ruleset test_laws = (typed_is, typed_passes)

pub ruleset formed_laws = (left_formed, right_formed)
