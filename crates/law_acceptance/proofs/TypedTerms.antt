-- What is typed with low types has no failure in its nodes.
use Rattle.std.proofs.Common.{◌≡◌, ℕ, ◌≤◌, Bool, true, false, ◌&&◌, ◌||◌, List, [], ◌∷◌, Option, Some, None, refl, ap, ap₂, sym, ◌∙◌}
use Rattle.std.specs.Prelude.{nat_le, not, if◌then◌else◌, option_map}
use Rattle.std.specs.Option.{option_or}
use Rattle.texts.specs.Keys.{is_before, all_after, is_rising, has_name}
use Rattle.texts.proofs.Conjunction.{both as both_true, first as first_and, second as second_and}
use Rattle.texts.proofs.KeyOrder.{after-differs, before-differs, before-trans, rising-first, rising-rest}
use Rattle.doc_values.specs.Types.{TyTree, FieldTrees, no_fields, more_fields, names_of, are_distinct, are_choices, is_well_formed, are_well_formed, height, is_same_ty}
use Rattle.doc_values.proofs.DistinctNames.{are_choices-distinct}
use Rattle.program_terms.specs.Terms as Term
use Rattle.lens_forms.specs.Forms.{FormTree, ArmTrees, no_arms, more_arms, form_bij, lefts, rights, insert_field, sorted, left_type, right_type}
use Rattle.lens_forms.specs.Typing.{is_typed, are_typed_rows, are_typed_arms, left_names, right_names, left_arms, right_arms}
use Rattle.lens_forms.proofs.SortedFields.{sorted-names}
use Rattle.lens_forms.specs.declared.limits.TheConstants.{GREATEST_HEIGHT}
use Rattle.lens_types.specs.Earlier.{Definitions, alternatives_type, alternatives_form, partition, expanded_type, expanded_fields, expanded_form, expanded_rows, expanded_arms}
use Rattle.lens_types.specs.Checking.{Failure, repeated_field, repeated_tag, repeated_member, not_a_member, middle_differs, too_deep, value_failure, enum_failure, pairs_failure, type_failure, fields_failure, lens_failure, rows_failure, arms_failure, middle_failure, sides_failure}
use Rattle.lens_types.specs.Repeats.{first_repeat, sided_members, field_names, pair_names, row_names, arm_names}
use Rattle.law_acceptance.specs.Acceptable.{HasLowSides, HasLowTypes, RowsHaveLowTypes, ArmsHaveLowTypes}
use Rattle.law_acceptance.proofs.NoRepeat.{members_new, fields_new, pairs_new, rows_new, arms_new}
use Rattle.std.proofs.lemmas.Bool.{le-leb}

-- ---- no failure

pub none_or : (a b : Option Failure) → a ≡ None → b ≡ None → option_or a b ≡ None
none_or None b h k = k
none_or (Some f) b h k = cc

none_map : (f : List ℕ → Failure) (x : Option (List ℕ)) → x ≡ None → option_map f x ≡ None
none_map f x h = ap (option_map f) h

pub none_if : (b : Bool) (f : Failure) → b ≡ true → (if b then None else Some f) ≡ None
none_if b f h = ap (λ x. if x then None else Some f) h

-- ---- sorted fields that rise are distinct

-- what is not after the first of the names is none of them
not_after : (n : List ℕ) (ms : List (List ℕ)) → all_after n ms ≡ true → is_rising ms ≡ true → has_name n ms ≡ false
not_after n [] h r = refl
not_after n (m ∷ ms) h r = ap₂ (λ x y. x || y) (before-differs n m h) (not_after n ms (after-first n m ms h (rising-first m ms r)) (rising-rest m ms r))
  where
    after-first : (k m : List ℕ) (ms : List (List ℕ)) → is_before k m ≡ true → all_after m ms ≡ true → all_after k ms ≡ true
    after-first k m [] h r = refl
    after-first k m (x ∷ xs) h r = before-trans k m x h r

-- a name that was put among names which rise then was not among them, and they rise
abbrev PutNew : List ℕ → FieldTrees → Type 0
PutNew n fs = (has_name n (names_of fs) ≡ false) × (is_rising (names_of fs) ≡ true)

before-put : (k n : List ℕ) (t : TyTree) (fs : FieldTrees) → all_after k (names_of (insert_field n t fs)) ≡ true → is_rising (names_of (insert_field n t fs)) ≡ true → all_after k (names_of fs) ≡ true
before-put k n t no_fields h r = refl
before-put k n t (more_fields m u fs) h r = go (is_before m n) h r
  where
    go : (b : Bool) → all_after k (names_of (if b then more_fields m u (insert_field n t fs) else more_fields n t (more_fields m u fs))) ≡ true
        → is_rising (names_of (if b then more_fields m u (insert_field n t fs) else more_fields n t (more_fields m u fs))) ≡ true → is_before k m ≡ true
    go true h r = h
    go false h r = before-trans k n m h (rising-first n (m ∷ names_of fs) r)

put_new-step : (b : Bool) (n m : List ℕ) (t u : TyTree) (fs : FieldTrees) → is_before m n ≡ b
    → is_rising (names_of (if b then more_fields m u (insert_field n t fs) else more_fields n t (more_fields m u fs))) ≡ true
    → (is_rising (names_of (insert_field n t fs)) ≡ true → PutNew n fs) → PutNew n (more_fields m u fs)
put_new-step true n m t u fs e h f =
    let inner = rising-rest m (names_of (insert_field n t fs)) h in
    let new = f inner in (
      ap₂ (λ x y. x || y) (after-differs n m e) new.0,
      both_true _ _ (before-put m n t fs (rising-first m (names_of (insert_field n t fs)) h) inner) new.1,
    )
put_new-step false n m t u fs e h f =
    let rest = rising-rest n (m ∷ names_of fs) h in
    (not_after n (m ∷ names_of fs) (rising-first n (m ∷ names_of fs) h) rest, rest)

put_new : (n : List ℕ) (t : TyTree) (fs : FieldTrees) → is_rising (names_of (insert_field n t fs)) ≡ true → PutNew n fs
put_new n t no_fields h = (refl, refl)
put_new n t (more_fields m u fs) h = put_new-step (is_before m n) n m t u fs refl h (λ k. put_new n t fs k)

sorted-distinct : (fs : FieldTrees) → is_rising (names_of (sorted fs)) ≡ true → are_distinct (names_of fs) ≡ true
sorted-distinct no_fields h = refl
sorted-distinct (more_fields n t fs) h =
    let new = put_new n t (sorted fs) h in
    both_true _ _ (ap not (sym (sorted-names fs n) ∙ new.0)) (sorted-distinct fs new.1)

formed-put : (n : List ℕ) (t : TyTree) (fs : FieldTrees) → are_well_formed (insert_field n t fs) ≡ true → (is_well_formed t && are_well_formed fs) ≡ true
formed-put n t no_fields h = h
formed-put n t (more_fields m u fs) h = go (is_before m n) h (λ k. formed-put n t fs k)
  where
    go : (b : Bool) → are_well_formed (if b then more_fields m u (insert_field n t fs) else more_fields n t (more_fields m u fs)) ≡ true
        → (are_well_formed (insert_field n t fs) ≡ true → (is_well_formed t && are_well_formed fs) ≡ true) → (is_well_formed t && (is_well_formed u && are_well_formed fs)) ≡ true
    go true h f =
        let inner = f (second_and (is_well_formed u) (are_well_formed (insert_field n t fs)) h) in
        both_true _ _ (first_and (is_well_formed t) (are_well_formed fs) inner)
        (both_true _ _ (first_and (is_well_formed u) (are_well_formed (insert_field n t fs)) h) (second_and (is_well_formed t) (are_well_formed fs) inner))
    go false h f = h

sorted-formed : (fs : FieldTrees) → are_well_formed (sorted fs) ≡ true → are_well_formed fs ≡ true
sorted-formed no_fields h = refl
sorted-formed (more_fields n t fs) h =
    let parts = formed-put n t (sorted fs) h in
    both_true _ _ (first_and (is_well_formed t) (are_well_formed (sorted fs)) parts) (sorted-formed fs (second_and (is_well_formed t) (are_well_formed (sorted fs)) parts))

-- ---- types

value_none : (v : List ℕ) (ms : List (List ℕ)) → has_name v ms ≡ true → value_failure v ms ≡ None
value_none v ms h = none_if (has_name v ms) (not_a_member v) h

enum_none : (ms : List (List ℕ)) (v : List ℕ) → (are_choices ms && has_name v ms) ≡ true → enum_failure ms v ≡ None
enum_none ms v h =
    none_or (option_map repeated_member (first_repeat (sided_members ms))) (value_failure v ms)
    (none_map repeated_member (first_repeat (sided_members ms)) (members_new ms (are_choices-distinct ms (first_and (are_choices ms) (has_name v ms) h))))
    (value_none v ms (second_and (are_choices ms) (has_name v ms) h))

-- alternatives that are well formed, also those of nothing, have distinct tags and well-formed types
tags_formed : (fs : FieldTrees) → is_well_formed (alternatives_type fs) ≡ true → (are_distinct (names_of fs) && are_well_formed fs) ≡ true
tags_formed no_fields h = refl
tags_formed (more_fields n t fs) h = h

mutual
  pub type_none : (ds : Definitions) (t : Term.TypeTree) → is_well_formed (expanded_type ds t) ≡ true → type_failure t ≡ None
  type_none ds Term.unit h = refl
  type_none ds Term.bool h = refl
  type_none ds (Term.int z) h = refl
  type_none ds (Term.text s) h = refl
  type_none ds (Term.enum_of ms v) h = enum_none ms v h
  type_none ds (Term.record_of fs) h =
      let gs = expanded_fields ds fs in
      let distinct = sorted-distinct gs (first_and (is_rising (names_of (sorted gs))) (are_well_formed (sorted gs)) h) in
      none_or (fields_failure fs) (option_map repeated_field (first_repeat (field_names fs)))
      (fields_none ds fs (sorted-formed gs (second_and (is_rising (names_of (sorted gs))) (are_well_formed (sorted gs)) h)))
      (none_map repeated_field (first_repeat (field_names fs)) (fields_new ds fs distinct))
  type_none ds (Term.one_of fs) h =
      let gs = expanded_fields ds fs in
      let formed = tags_formed gs h in
      none_or (fields_failure fs) (option_map repeated_tag (first_repeat (field_names fs)))
      (fields_none ds fs (second_and (are_distinct (names_of gs)) (are_well_formed gs) formed))
      (none_map repeated_tag (first_repeat (field_names fs)) (fields_new ds fs (first_and (are_distinct (names_of gs)) (are_well_formed gs) formed)))
  type_none ds (Term.list t) h = type_none ds t h
  type_none ds (Term.keyed t) h = type_none ds t h
  type_none ds (Term.tree t) h = type_none ds t h
  type_none ds (Term.named n) h = refl

  fields_none : (ds : Definitions) (fs : Term.TermFields) → are_well_formed (expanded_fields ds fs) ≡ true → fields_failure fs ≡ None
  fields_none ds Term.no_fields h = refl
  fields_none ds (Term.more_fields n t fs) h =
      none_or (type_failure t) (fields_failure fs)
      (type_none ds t (first_and (is_well_formed (expanded_type ds t)) (are_well_formed (expanded_fields ds fs)) h))
      (fields_none ds fs (second_and (is_well_formed (expanded_type ds t)) (are_well_formed (expanded_fields ds fs)) h))

-- ---- lenses

sides_none : (f : FormTree) → HasLowSides f → sides_failure f ≡ None
sides_none f low =
    none_if (nat_le (height (left_type f)) GREATEST_HEIGHT && nat_le (height (right_type f)) GREATEST_HEIGHT) too_deep
    (both_true _ _ (le-leb (height (left_type f)) GREATEST_HEIGHT low.0) (le-leb (height (right_type f)) GREATEST_HEIGHT low.1))

pairs_none : (ps : List (List ℕ × List ℕ)) (v : List ℕ) → is_typed (form_bij ps v) ≡ true → pairs_failure ps v ≡ None
pairs_none ps v h =
    let rest = second_and (are_choices (lefts ps)) (are_choices (rights ps) && has_name v (lefts ps)) h in
    let left = are_choices-distinct (lefts ps) (first_and (are_choices (lefts ps)) (are_choices (rights ps) && has_name v (lefts ps)) h) in
    let right = are_choices-distinct (rights ps) (first_and (are_choices (rights ps)) (has_name v (lefts ps)) rest) in
    none_or (option_map repeated_member (first_repeat (pair_names ps))) (value_failure v (lefts ps))
    (none_map repeated_member (first_repeat (pair_names ps)) (pairs_new ps left right))
    (value_none v (lefts ps) (second_and (are_choices (rights ps)) (has_name v (lefts ps)) rest))

middle_none : (l k : FormTree) → is_same_ty (right_type l) (left_type k) ≡ true → middle_failure l k ≡ None
middle_none l k h = none_if (is_same_ty (right_type l) (left_type k)) (middle_differs (right_type l) (left_type k)) h

-- what typed alternatives with low types, also those of nothing, have
record HasArms (arms : ArmTrees) : Type 0 where
  inner : are_typed_arms arms ≡ true
  lefts : are_distinct (left_arms arms) ≡ true
  rights : are_distinct (right_arms arms) ≡ true
  low : ArmsHaveLowTypes arms
  sides : HasLowSides (alternatives_form arms)

arms_of : (arms : ArmTrees) → is_typed (alternatives_form arms) ≡ true → HasLowTypes (alternatives_form arms) → HasArms arms
arms_of no_arms h low = record { inner = refl; lefts = refl; rights = refl; low = tt; sides = low.0 }
arms_of (more_arms a b l arms) h low =
    let all = more_arms a b l arms in
    let names = second_and (are_typed_arms all) (are_choices (left_arms all) && are_choices (right_arms all)) h in
    record {
      inner = first_and (are_typed_arms all) (are_choices (left_arms all) && are_choices (right_arms all)) h;
      lefts = first_and (are_choices (left_arms all)) (are_choices (right_arms all)) names;
      rights = second_and (are_choices (left_arms all)) (are_choices (right_arms all)) names;
      low = low.1;
      sides = low.0;
    }

-- what a typed partition with low types, also that of nothing, has
record HasTags (fs : FieldTrees) : Type 0 where
  names : are_distinct (names_of fs) ≡ true
  formed : are_well_formed fs ≡ true
  sides : HasLowSides (partition fs)

tags_of : (fs : FieldTrees) → is_typed (partition fs) ≡ true → HasLowTypes (partition fs) → HasTags fs
tags_of no_fields h low = record { names = refl; formed = refl; sides = low.0 }
tags_of (more_fields n t fs) h low =
    let all = more_fields n t fs in
    record { names = first_and (are_choices (names_of all)) (are_well_formed all) h; formed = second_and (are_choices (names_of all)) (are_well_formed all) h; sides = low.0 }

mutual
  pub lens_none : (ds : Definitions) (l : Term.LensTree) → is_typed (expanded_form ds l) ≡ true → HasLowTypes (expanded_form ds l) → lens_failure ds l ≡ None
  lens_none ds (Term.id_of t) h low =
      none_or (type_failure t) (sides_failure (expanded_form ds (Term.id_of t))) (type_none ds t h) (sides_none (expanded_form ds (Term.id_of t)) low.0)
  lens_none ds (Term.bij_of ps v) h low =
      none_or (pairs_failure ps v) (sides_failure (form_bij ps v)) (pairs_none ps v h) (sides_none (form_bij ps v) low)
  lens_none ds (Term.disc_of t u) h low =
      let f = expanded_form ds (Term.disc_of t u) in
      none_or (type_failure t) (option_or (type_failure u) (sides_failure f))
      (type_none ds t (first_and (is_well_formed (expanded_type ds t)) (is_well_formed (expanded_type ds u)) h))
      (none_or (type_failure u) (sides_failure f)
      (type_none ds u (second_and (is_well_formed (expanded_type ds t)) (is_well_formed (expanded_type ds u)) h)) (sides_none f low.0))
  lens_none ds (Term.then_of l k) h low =
      let f = expanded_form ds l in
      let g = expanded_form ds k in
      let both = first_and (is_typed f && is_typed g) (is_same_ty (right_type f) (left_type g)) h in
      let same = second_and (is_typed f && is_typed g) (is_same_ty (right_type f) (left_type g)) h in
      none_or (lens_failure ds l) _ (lens_none ds l (first_and (is_typed f) (is_typed g) both) low.1)
      (none_or (lens_failure ds k) _ (lens_none ds k (second_and (is_typed f) (is_typed g) both) low.2)
      (none_or (middle_failure f g) _ (middle_none f g same) (sides_none (expanded_form ds (Term.then_of l k)) low.0)))
  lens_none ds (Term.rec_lens rows) h low =
      let rs = expanded_rows ds rows in
      let names = second_and (are_typed_rows rs) (are_distinct (left_names rs) && are_distinct (right_names rs)) h in
      none_or (rows_failure ds rows) _ (rows_none ds rows (first_and (are_typed_rows rs) (are_distinct (left_names rs) && are_distinct (right_names rs)) h) low.1)
      (none_or (option_map repeated_field (first_repeat (row_names rows))) _
      (none_map repeated_field (first_repeat (row_names rows))
      (rows_new ds rows (first_and (are_distinct (left_names rs)) (are_distinct (right_names rs)) names) (second_and (are_distinct (left_names rs)) (are_distinct (right_names rs)) names)))
      (sides_none (expanded_form ds (Term.rec_lens rows)) low.0))
  lens_none ds (Term.alt_lens arms) h low =
      let has = arms_of (expanded_arms ds arms) h low in
      none_or (arms_failure ds arms) _ (arms_none ds arms has.inner has.low)
      (none_or (option_map repeated_tag (first_repeat (arm_names arms))) _
      (none_map repeated_tag (first_repeat (arm_names arms)) (arms_new ds arms has.lefts has.rights))
      (sides_none (alternatives_form (expanded_arms ds arms)) has.sides))
  lens_none ds (Term.each_of l) h low = none_or (lens_failure ds l) _ (lens_none ds l h low.1) (sides_none (expanded_form ds (Term.each_of l)) low.0)
  lens_none ds (Term.keyed_each l) h low = none_or (lens_failure ds l) _ (lens_none ds l h low.1) (sides_none (expanded_form ds (Term.keyed_each l)) low.0)
  lens_none ds (Term.tree_each l) h low = none_or (lens_failure ds l) _ (lens_none ds l h low.1) (sides_none (expanded_form ds (Term.tree_each l)) low.0)
  lens_none ds (Term.part_of fs) h low =
      let has = tags_of (expanded_fields ds fs) h low in
      none_or (fields_failure fs) _ (fields_none ds fs has.formed)
      (none_or (option_map repeated_tag (first_repeat (field_names fs))) _
      (none_map repeated_tag (first_repeat (field_names fs)) (fields_new ds fs has.names))
      (sides_none (partition (expanded_fields ds fs)) has.sides))
  lens_none ds (Term.inv_of l) h low = none_or (lens_failure ds l) _ (lens_none ds l h low.1) (sides_none (expanded_form ds (Term.inv_of l)) low.0)
  lens_none ds (Term.named_lens n) h low = refl

  rows_none : (ds : Definitions) (rows : Term.TermRows) → are_typed_rows (expanded_rows ds rows) ≡ true → RowsHaveLowTypes (expanded_rows ds rows) → rows_failure ds rows ≡ None
  rows_none ds Term.no_rows h low = refl
  rows_none ds (Term.both a b l rows) h low =
      let f = expanded_form ds l in
      let rs = expanded_rows ds rows in
      none_or (lens_failure ds l) (rows_failure ds rows) (lens_none ds l (first_and (is_typed f) (are_typed_rows rs) h) low.0)
      (rows_none ds rows (second_and (is_typed f) (are_typed_rows rs) h) low.1)
  rows_none ds (Term.only_left a t rows) h low =
      let u = expanded_type ds t in
      let rs = expanded_rows ds rows in
      none_or (type_failure t) (rows_failure ds rows) (type_none ds t (first_and (is_well_formed u) (are_typed_rows rs) h))
      (rows_none ds rows (second_and (is_well_formed u) (are_typed_rows rs) h) low.1)
  rows_none ds (Term.only_right b t rows) h low =
      let u = expanded_type ds t in
      let rs = expanded_rows ds rows in
      none_or (type_failure t) (rows_failure ds rows) (type_none ds t (first_and (is_well_formed u) (are_typed_rows rs) h))
      (rows_none ds rows (second_and (is_well_formed u) (are_typed_rows rs) h) low.1)

  arms_none : (ds : Definitions) (arms : Term.TermArms) → are_typed_arms (expanded_arms ds arms) ≡ true → ArmsHaveLowTypes (expanded_arms ds arms) → arms_failure ds arms ≡ None
  arms_none ds Term.no_arms h low = refl
  arms_none ds (Term.more_arms a b l arms) h low =
      let f = expanded_form ds l in
      let rs = expanded_arms ds arms in
      none_or (lens_failure ds l) (arms_failure ds arms) (lens_none ds l (first_and (is_typed f) (are_typed_arms rs) h) low.0)
      (arms_none ds arms (second_and (is_typed f) (are_typed_arms rs) h) low.1)
