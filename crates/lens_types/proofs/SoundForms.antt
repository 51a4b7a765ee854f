-- What has no failure is typed and keeps the limits.
use Rattle.std.proofs.Common.{◌≡◌, ℕ, Bool, true, false, ◌&&◌, List, [], ◌∷◌, ◌++◌, Option, Some, None, refl}
use Rattle.std.specs.Prelude.{bytes_eq, nat_le, if◌then◌else◌, option_map}
use Rattle.std.specs.Option.{option_or}
use Rattle.texts.specs.Keys.{has_name}
use Rattle.doc_values.specs.Types.{FieldTrees, no_fields, more_fields, names_of, are_distinct, are_choices, is_well_formed, are_well_formed, height, is_same_ty}
use Rattle.texts.proofs.Conjunction.{both as both_true, first as first_and, second as second_and}
use Rattle.program_terms.specs.Terms as Term
use Rattle.lens_forms.specs.Forms.{FormTree, ArmTrees, no_arms, more_arms, form_bij, lefts, rights, left_type, right_type}
use Rattle.lens_forms.specs.Typing.{is_typed, are_typed_rows, are_typed_arms, left_arms, right_arms}
use Rattle.lens_forms.specs.Measures.{form_parts, form_height}
use Rattle.lens_types.specs.Sound.{is_sound}
use Rattle.lens_types.specs.Earlier.{KnownTree, known_type, known_lens, Definitions, known, type_of_known, form_of_known, type_named, form_named, alternatives_type, alternatives_form, partition, expanded_type, expanded_fields, expanded_form, expanded_rows, expanded_arms, known_of}
use Rattle.lens_types.specs.Checking.{Failure, repeated_field, repeated_tag, repeated_member, not_a_member, too_large, too_deep, value_failure, enum_failure, pairs_failure, type_failure, fields_failure, lens_failure, rows_failure, arms_failure, middle_failure, sides_failure, written_height, size_failure, height_failure, def_failure}
use Rattle.lens_types.specs.Repeats.{first_repeat, sided_members, field_names, pair_names, row_names, arm_names}
use Rattle.lens_types.proofs.RepeatedNames.{members_distinct, fields_distinct, lefts_distinct, rights_distinct, left_names_distinct, right_names_distinct, left_arms_distinct, right_arms_distinct}
use Rattle.lens_forms.proofs.SortedFields.{sorted-rising, sorted-well_formed}
use Rattle.lens_forms.specs.declared.limits.TheConstants.{GREATEST_HEIGHT, MOST_PARTS}

-- ---- no failure

pub none_both : (a b : Option Failure) → option_or a b ≡ None → (a ≡ None) × (b ≡ None)
none_both None b h = (refl, h)
none_both (Some f) b h = cc

none_map : (f : List ℕ → Failure) (x : Option (List ℕ)) → option_map f x ≡ None → x ≡ None
none_map f None h = refl
none_map f (Some n) h = cc

pub none_if : (b : Bool) (f : Failure) → (if b then None else Some f) ≡ None → b ≡ true
none_if true f h = refl
none_if false f h = cc

-- ---- earlier definitions that were checked

abbrev pub is_sound_known : KnownTree → Bool
is_sound_known (known_type t) = is_well_formed t
is_sound_known (known_lens f) = is_sound f

abbrev pub are_sound : Definitions → Bool
are_sound [] = true
are_sound (d ∷ ds) = is_sound_known d.1 && are_sound ds

pub sound_more : (ds : Definitions) (n : List ℕ) (k : KnownTree) → are_sound ds ≡ true → is_sound_known k ≡ true → are_sound (ds ++ (n, k) ∷ []) ≡ true
sound_more [] n k h e = both_true _ _ e refl
sound_more (d ∷ ds) n k h e =
    both_true _ _ (first_and (is_sound_known d.1) (are_sound ds) h) (sound_more ds n k (second_and (is_sound_known d.1) (are_sound ds) h) e)

type_step : (b : Bool) (k : KnownTree) (rest : Option KnownTree) → is_sound_known k ≡ true → is_well_formed (type_of_known rest) ≡ true
    → is_well_formed (type_of_known (if b then Some k else rest)) ≡ true
type_step true (known_type t) rest h r = h
type_step true (known_lens f) rest h r = refl
type_step false k rest h r = r

named_formed : (ds : Definitions) (n : List ℕ) → are_sound ds ≡ true → is_well_formed (type_named ds n) ≡ true
named_formed [] n h = refl
named_formed (d ∷ ds) n h =
    type_step (bytes_eq n d.0) d.1 (known ds n) (first_and (is_sound_known d.1) (are_sound ds) h) (named_formed ds n (second_and (is_sound_known d.1) (are_sound ds) h))

form_step : (b : Bool) (k : KnownTree) (rest : Option KnownTree) → is_sound_known k ≡ true → is_sound (form_of_known rest) ≡ true
    → is_sound (form_of_known (if b then Some k else rest)) ≡ true
form_step true (known_type t) rest h r = refl
form_step true (known_lens f) rest h r = h
form_step false k rest h r = r

named_sound : (ds : Definitions) (n : List ℕ) → are_sound ds ≡ true → is_sound (form_named ds n) ≡ true
named_sound [] n h = refl
named_sound (d ∷ ds) n h =
    form_step (bytes_eq n d.0) d.1 (known ds n) (first_and (is_sound_known d.1) (are_sound ds) h) (named_sound ds n (second_and (is_sound_known d.1) (are_sound ds) h))

-- ---- types

-- distinct names of which there is one are choices
some_choices : (n : List ℕ) (ms : List (List ℕ)) → are_distinct ms ≡ true → has_name n ms ≡ true → are_choices ms ≡ true
some_choices n [] h k = cc
some_choices n (m ∷ ms) h k = h

is_member : (v : List ℕ) (ms : List (List ℕ)) → value_failure v ms ≡ None → has_name v ms ≡ true
is_member v ms h = none_if (has_name v ms) (not_a_member v) h

enum_formed : (ms : List (List ℕ)) (v : List ℕ) → enum_failure ms v ≡ None → (are_choices ms && has_name v ms) ≡ true
enum_formed ms v h =
    let none = none_both (option_map repeated_member (first_repeat (sided_members ms))) (value_failure v ms) h in
    let member = is_member v ms none.1 in
    both_true _ _ (some_choices v ms (members_distinct ms (none_map repeated_member (first_repeat (sided_members ms)) none.0)) member) member

alternatives_formed : (fs : FieldTrees) → are_distinct (names_of fs) ≡ true → are_well_formed fs ≡ true → is_well_formed (alternatives_type fs) ≡ true
alternatives_formed no_fields h r = refl
alternatives_formed (more_fields n t fs) h r = both_true _ _ h r

mutual
  pub type_formed : (ds : Definitions) → are_sound ds ≡ true → (t : Term.TypeTree) → type_failure t ≡ None → is_well_formed (expanded_type ds t) ≡ true
  type_formed ds s Term.unit h = refl
  type_formed ds s Term.bool h = refl
  type_formed ds s (Term.int z) h = refl
  type_formed ds s (Term.text x) h = refl
  type_formed ds s (Term.enum_of ms v) h = enum_formed ms v h
  type_formed ds s (Term.record_of fs) h =
      let none = none_both (fields_failure fs) (option_map repeated_field (first_repeat (field_names fs))) h in
      both_true _ _ (sorted-rising (expanded_fields ds fs) (fields_distinct ds fs (none_map repeated_field (first_repeat (field_names fs)) none.1)))
      (sorted-well_formed (expanded_fields ds fs) (fields_formed ds s fs none.0))
  type_formed ds s (Term.one_of fs) h =
      let none = none_both (fields_failure fs) (option_map repeated_tag (first_repeat (field_names fs))) h in
      alternatives_formed (expanded_fields ds fs) (fields_distinct ds fs (none_map repeated_tag (first_repeat (field_names fs)) none.1)) (fields_formed ds s fs none.0)
  type_formed ds s (Term.list t) h = type_formed ds s t h
  type_formed ds s (Term.keyed t) h = type_formed ds s t h
  type_formed ds s (Term.tree t) h = type_formed ds s t h
  type_formed ds s (Term.named n) h = named_formed ds n s

  fields_formed : (ds : Definitions) → are_sound ds ≡ true → (fs : Term.TermFields) → fields_failure fs ≡ None → are_well_formed (expanded_fields ds fs) ≡ true
  fields_formed ds s Term.no_fields h = refl
  fields_formed ds s (Term.more_fields n t fs) h =
      let none = none_both (type_failure t) (fields_failure fs) h in
      both_true _ _ (type_formed ds s t none.0) (fields_formed ds s fs none.1)

-- ---- lenses

-- pairs of which one has a left member have distinct right members of which there is one
right_choices : (v : List ℕ) (ps : List (List ℕ × List ℕ)) → has_name v (lefts ps) ≡ true → are_distinct (rights ps) ≡ true → are_choices (rights ps) ≡ true
right_choices v [] h k = cc
right_choices v (p ∷ ps) h k = k

bijection_typed : (ps : List (List ℕ × List ℕ)) (v : List ℕ) → pairs_failure ps v ≡ None → is_typed (form_bij ps v) ≡ true
bijection_typed ps v h =
    let none = none_both (option_map repeated_member (first_repeat (pair_names ps))) (value_failure v (lefts ps)) h in
    let distinct = none_map repeated_member (first_repeat (pair_names ps)) none.0 in
    let member = is_member v (lefts ps) none.1 in
    both_true _ _ (some_choices v (lefts ps) (lefts_distinct ps distinct) member)
    (both_true _ _ (right_choices v ps member (rights_distinct ps distinct)) member)

alternatives_typed : (arms : ArmTrees) → are_typed_arms arms ≡ true → are_distinct (left_arms arms) ≡ true → are_distinct (right_arms arms) ≡ true
    → is_typed (alternatives_form arms) ≡ true
alternatives_typed no_arms h l r = refl
alternatives_typed (more_arms a b f arms) h l r = both_true _ _ h (both_true _ _ l r)

partition_typed : (fs : FieldTrees) → are_distinct (names_of fs) ≡ true → are_well_formed fs ≡ true → is_typed (partition fs) ≡ true
partition_typed no_fields h r = refl
partition_typed (more_fields n t fs) h r = both_true _ _ h r

middle_same : (l k : FormTree) → middle_failure l k ≡ None → is_same_ty (right_type l) (left_type k) ≡ true
middle_same l k h = none_if (is_same_ty (right_type l) (left_type k)) _ h

mutual
  pub lens_typed : (ds : Definitions) → are_sound ds ≡ true → (l : Term.LensTree) → lens_failure ds l ≡ None → is_typed (expanded_form ds l) ≡ true
  lens_typed ds s (Term.id_of t) h = type_formed ds s t (none_both (type_failure t) _ h).0
  lens_typed ds s (Term.bij_of ps v) h = bijection_typed ps v (none_both (pairs_failure ps v) _ h).0
  lens_typed ds s (Term.disc_of t u) h =
      let none = none_both (type_failure t) _ h in
      both_true _ _ (type_formed ds s t none.0) (type_formed ds s u (none_both (type_failure u) _ none.1).0)
  lens_typed ds s (Term.then_of l k) h =
      let first = none_both (lens_failure ds l) _ h in
      let second = none_both (lens_failure ds k) _ first.1 in
      let middle = none_both (middle_failure (expanded_form ds l) (expanded_form ds k)) _ second.1 in
      both_true _ _ (both_true _ _ (lens_typed ds s l first.0) (lens_typed ds s k second.0)) (middle_same (expanded_form ds l) (expanded_form ds k) middle.0)
  lens_typed ds s (Term.rec_lens rows) h =
      let parts = none_both (rows_failure ds rows) _ h in
      let none = none_map repeated_field (first_repeat (row_names rows)) (none_both (option_map repeated_field (first_repeat (row_names rows))) _ parts.1).0 in
      both_true _ _ (rows_typed ds s rows parts.0) (both_true _ _ (left_names_distinct ds rows none) (right_names_distinct ds rows none))
  lens_typed ds s (Term.alt_lens arms) h =
      let parts = none_both (arms_failure ds arms) _ h in
      let none = none_map repeated_tag (first_repeat (arm_names arms)) (none_both (option_map repeated_tag (first_repeat (arm_names arms))) _ parts.1).0 in
      alternatives_typed (expanded_arms ds arms) (arms_typed ds s arms parts.0) (left_arms_distinct ds arms none) (right_arms_distinct ds arms none)
  lens_typed ds s (Term.each_of l) h = lens_typed ds s l (none_both (lens_failure ds l) _ h).0
  lens_typed ds s (Term.keyed_each l) h = lens_typed ds s l (none_both (lens_failure ds l) _ h).0
  lens_typed ds s (Term.tree_each l) h = lens_typed ds s l (none_both (lens_failure ds l) _ h).0
  lens_typed ds s (Term.part_of fs) h =
      let parts = none_both (fields_failure fs) _ h in
      let none = none_map repeated_tag (first_repeat (field_names fs)) (none_both (option_map repeated_tag (first_repeat (field_names fs))) _ parts.1).0 in
      partition_typed (expanded_fields ds fs) (fields_distinct ds fs none) (fields_formed ds s fs parts.0)
  lens_typed ds s (Term.inv_of l) h = lens_typed ds s l (none_both (lens_failure ds l) _ h).0
  lens_typed ds s (Term.named_lens n) h = first_and (is_typed (form_named ds n)) _ (named_sound ds n s)

  rows_typed : (ds : Definitions) → are_sound ds ≡ true → (rows : Term.TermRows) → rows_failure ds rows ≡ None → are_typed_rows (expanded_rows ds rows) ≡ true
  rows_typed ds s Term.no_rows h = refl
  rows_typed ds s (Term.both a b l rows) h =
      let none = none_both (lens_failure ds l) (rows_failure ds rows) h in both_true _ _ (lens_typed ds s l none.0) (rows_typed ds s rows none.1)
  rows_typed ds s (Term.only_left a t rows) h =
      let none = none_both (type_failure t) (rows_failure ds rows) h in both_true _ _ (type_formed ds s t none.0) (rows_typed ds s rows none.1)
  rows_typed ds s (Term.only_right b t rows) h =
      let none = none_both (type_failure t) (rows_failure ds rows) h in both_true _ _ (type_formed ds s t none.0) (rows_typed ds s rows none.1)

  arms_typed : (ds : Definitions) → are_sound ds ≡ true → (arms : Term.TermArms) → arms_failure ds arms ≡ None → are_typed_arms (expanded_arms ds arms) ≡ true
  arms_typed ds s Term.no_arms h = refl
  arms_typed ds s (Term.more_arms a b l arms) h =
      let none = none_both (lens_failure ds l) (arms_failure ds arms) h in both_true _ _ (lens_typed ds s l none.0) (arms_typed ds s arms none.1)

-- ---- the sides are low

abbrev low_sides : FormTree → Bool
low_sides f = nat_le (height (left_type f)) GREATEST_HEIGHT && nat_le (height (right_type f)) GREATEST_HEIGHT

sides_low : (f : FormTree) → sides_failure f ≡ None → low_sides f ≡ true
sides_low f h = none_if (low_sides f) too_deep h

last_low : (a : Option Failure) (f : FormTree) → option_or a (sides_failure f) ≡ None → low_sides f ≡ true
last_low a f h = sides_low f (none_both a (sides_failure f) h).1

pub lens_low : (ds : Definitions) → are_sound ds ≡ true → (l : Term.LensTree) → lens_failure ds l ≡ None → low_sides (expanded_form ds l) ≡ true
lens_low ds s (Term.id_of t) h = last_low (type_failure t) (expanded_form ds (Term.id_of t)) h
lens_low ds s (Term.bij_of ps v) h = last_low (pairs_failure ps v) (form_bij ps v) h
lens_low ds s (Term.disc_of t u) h = last_low (type_failure u) (expanded_form ds (Term.disc_of t u)) (none_both (type_failure t) _ h).1
lens_low ds s (Term.then_of l k) h =
    last_low (middle_failure (expanded_form ds l) (expanded_form ds k)) (expanded_form ds (Term.then_of l k)) (none_both (lens_failure ds k) _ (none_both (lens_failure ds l) _ h).1).1
lens_low ds s (Term.rec_lens rows) h =
    last_low (option_map repeated_field (first_repeat (row_names rows))) (expanded_form ds (Term.rec_lens rows)) (none_both (rows_failure ds rows) _ h).1
lens_low ds s (Term.alt_lens arms) h =
    last_low (option_map repeated_tag (first_repeat (arm_names arms))) (alternatives_form (expanded_arms ds arms)) (none_both (arms_failure ds arms) _ h).1
lens_low ds s (Term.each_of l) h = last_low (lens_failure ds l) (expanded_form ds (Term.each_of l)) h
lens_low ds s (Term.keyed_each l) h = last_low (lens_failure ds l) (expanded_form ds (Term.keyed_each l)) h
lens_low ds s (Term.tree_each l) h = last_low (lens_failure ds l) (expanded_form ds (Term.tree_each l)) h
lens_low ds s (Term.part_of fs) h =
    last_low (option_map repeated_tag (first_repeat (field_names fs))) (partition (expanded_fields ds fs)) (none_both (fields_failure fs) _ h).1
lens_low ds s (Term.inv_of l) h = last_low (lens_failure ds l) (expanded_form ds (Term.inv_of l)) h
lens_low ds s (Term.named_lens n) h =
    let f = form_named ds n in
    second_and (nat_le (form_height f) GREATEST_HEIGHT) (low_sides f)
    (second_and (nat_le (form_parts f) MOST_PARTS) _ (second_and (is_typed f) _ (named_sound ds n s)))

-- ---- definitions

pub lens_sound : (ds : Definitions) → are_sound ds ≡ true → (l : Term.LensTree) → def_failure ds (Term.lens_def l) ≡ None → is_sound (expanded_form ds l) ≡ true
lens_sound ds s l h =
    let f = expanded_form ds l in
    let size = none_both (size_failure (form_parts f)) _ h in
    let levels = none_both (height_failure (form_height f)) _ size.1 in
    let nodes = none_both (height_failure (written_height ds l)) (lens_failure ds l) levels.1 in
    both_true _ _ (lens_typed ds s l nodes.1)
    (both_true _ _ (none_if (nat_le (form_parts f) MOST_PARTS) too_large size.0)
    (both_true _ _ (none_if (nat_le (form_height f) GREATEST_HEIGHT) too_deep levels.0) (lens_low ds s l nodes.1)))

pub def_sound : (ds : Definitions) → are_sound ds ≡ true → (d : Term.DefTree) → def_failure ds d ≡ None → is_sound_known (known_of ds d) ≡ true
def_sound ds s (Term.type_def t) h =
    type_formed ds s t (none_both (height_failure (height (expanded_type ds t))) (type_failure t) (none_both (size_failure _) _ h).1).1
def_sound ds s (Term.lens_def l) h = lens_sound ds s l h
