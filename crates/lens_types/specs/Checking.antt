-- The first failure of a program, in the order of checking.
-- Read it from the end: `first_failure`, then `def_failure`, `lens_failure` and `type_failure`.
use Rattle.std.specs.Prelude.{ℕ, ◌&&◌, nat_le, max, if◌then◌else◌, List, [], ◌∷◌, ◌++◌, Option, Some, None, option_map}
use Rattle.std.specs.Option.{option_or}
use Rattle.texts.specs.Keys.{has_name}
use Rattle.doc_values.specs.Types.{TyTree, height, highest, is_same_ty}
use Rattle.program_terms.specs.Terms as Term
use Rattle.lens_forms.specs.Forms.{FormTree, lefts, left_type, right_type}
use Rattle.lens_types.specs.Earlier.{Definitions, expanded_type, expanded_fields, expanded_form, known_of}
use Rattle.lens_forms.specs.Measures.{type_parts, form_parts, form_height}
use Rattle.lens_forms.specs.declared.limits.TheConstants.{GREATEST_HEIGHT, MOST_PARTS}
use Rattle.lens_types.specs.Repeats.{first_repeat, sided_members, field_names, pair_names, row_names, arm_names}

-- why a program is refused
pub data Failure : Type 0 where
  middle_differs : TyTree → TyTree → Failure
  repeated_field : List ℕ → Failure
  repeated_tag : List ℕ → Failure
  repeated_member : List ℕ → Failure
  not_a_member : List ℕ → Failure
  too_large : Failure
  too_deep : Failure

-- ---- enums and bijections: first the members are distinct, then the initial value is one of them

-- the initial value is one of the members
abbrev pub value_failure : List ℕ → List (List ℕ) → Option Failure
value_failure v ms = if has_name v ms then None else Some (not_a_member v)

abbrev pub enum_failure : List (List ℕ) → List ℕ → Option Failure
enum_failure ms v = option_or (option_map repeated_member (first_repeat (sided_members ms))) (value_failure v ms)

-- the members of a bijection are distinct on each side, and its initial value is a left one
abbrev pub pairs_failure : List (List ℕ × List ℕ) → List ℕ → Option Failure
pairs_failure ps v = option_or (option_map repeated_member (first_repeat (pair_names ps))) (value_failure v (lefts ps))

-- ---- the nodes of a type, each after its parts: fields and tags are distinct

abbrev mutual
  pub type_failure : Term.TypeTree → Option Failure
  type_failure Term.unit = None
  type_failure Term.bool = None
  type_failure (Term.int z) = None
  type_failure (Term.text s) = None
  type_failure (Term.enum_of ms v) = enum_failure ms v
  type_failure (Term.record_of fs) =
      option_or (fields_failure fs) (option_map repeated_field (first_repeat (field_names fs)))
  type_failure (Term.one_of fs) =
      option_or (fields_failure fs) (option_map repeated_tag (first_repeat (field_names fs)))
  type_failure (Term.list t) = type_failure t
  type_failure (Term.keyed t) = type_failure t
  type_failure (Term.tree t) = type_failure t
  -- a name counts as passed
  type_failure (Term.named n) = None

  pub fields_failure : Term.TermFields → Option Failure
  fields_failure Term.no_fields = None
  fields_failure (Term.more_fields n t fs) = option_or (type_failure t) (fields_failure fs)

-- ---- the nodes of a lens, each after its parts

-- the right type of the first form is the same as the left type of the second
abbrev pub middle_failure : FormTree → FormTree → Option Failure
middle_failure l k =
    if is_same_ty (right_type l) (left_type k) then None else Some (middle_differs (right_type l) (left_type k))

-- the types of both sides are at most so high
abbrev pub sides_failure : FormTree → Option Failure
sides_failure f =
    if nat_le (height (left_type f)) GREATEST_HEIGHT && nat_le (height (right_type f)) GREATEST_HEIGHT then None
    else Some too_deep

-- first the failures in the parts, then the node's own condition, then the heights of its two sides
abbrev mutual
  pub lens_failure : Definitions → Term.LensTree → Option Failure
  lens_failure ds (Term.id_of t) = option_or (type_failure t) (sides_failure (expanded_form ds (Term.id_of t)))
  lens_failure ds (Term.bij_of ps v) =
      option_or (pairs_failure ps v) (sides_failure (expanded_form ds (Term.bij_of ps v)))
  lens_failure ds (Term.disc_of t u) =
      option_or (type_failure t) (option_or (type_failure u) (sides_failure (expanded_form ds (Term.disc_of t u))))
  lens_failure ds (Term.then_of l k) =
      option_or (lens_failure ds l) (option_or (lens_failure ds k)
      (option_or (middle_failure (expanded_form ds l) (expanded_form ds k))
      (sides_failure (expanded_form ds (Term.then_of l k)))))
  lens_failure ds (Term.rec_lens rows) =
      option_or (rows_failure ds rows)
      (option_or (option_map repeated_field (first_repeat (row_names rows)))
      (sides_failure (expanded_form ds (Term.rec_lens rows))))
  lens_failure ds (Term.alt_lens arms) =
      option_or (arms_failure ds arms)
      (option_or (option_map repeated_tag (first_repeat (arm_names arms)))
      (sides_failure (expanded_form ds (Term.alt_lens arms))))
  lens_failure ds (Term.each_of l) = option_or (lens_failure ds l) (sides_failure (expanded_form ds (Term.each_of l)))
  lens_failure ds (Term.keyed_each l) =
      option_or (lens_failure ds l) (sides_failure (expanded_form ds (Term.keyed_each l)))
  lens_failure ds (Term.tree_each l) =
      option_or (lens_failure ds l) (sides_failure (expanded_form ds (Term.tree_each l)))
  lens_failure ds (Term.part_of fs) =
      option_or (fields_failure fs)
      (option_or (option_map repeated_tag (first_repeat (field_names fs)))
      (sides_failure (expanded_form ds (Term.part_of fs))))
  lens_failure ds (Term.inv_of l) = option_or (lens_failure ds l) (sides_failure (expanded_form ds (Term.inv_of l)))
  -- a name counts as passed
  lens_failure ds (Term.named_lens n) = None

  pub rows_failure : Definitions → Term.TermRows → Option Failure
  rows_failure ds Term.no_rows = None
  rows_failure ds (Term.both a b l rows) = option_or (lens_failure ds l) (rows_failure ds rows)
  rows_failure ds (Term.only_left a t rows) = option_or (type_failure t) (rows_failure ds rows)
  rows_failure ds (Term.only_right b t rows) = option_or (type_failure t) (rows_failure ds rows)

  pub arms_failure : Definitions → Term.TermArms → Option Failure
  arms_failure ds Term.no_arms = None
  arms_failure ds (Term.more_arms a b l arms) = option_or (lens_failure ds l) (arms_failure ds arms)

-- ---- definitions

-- the greatest height of a type that is written in a lens, names expanded; a name of a lens writes none
abbrev mutual
  pub written_height : Definitions → Term.LensTree → ℕ
  written_height ds (Term.id_of t) = height (expanded_type ds t)
  written_height ds (Term.bij_of ps v) = 0
  written_height ds (Term.disc_of t u) = max (height (expanded_type ds t)) (height (expanded_type ds u))
  written_height ds (Term.then_of l k) = max (written_height ds l) (written_height ds k)
  written_height ds (Term.rec_lens rows) = rows_written ds rows
  written_height ds (Term.alt_lens arms) = arms_written ds arms
  written_height ds (Term.each_of l) = written_height ds l
  written_height ds (Term.keyed_each l) = written_height ds l
  written_height ds (Term.tree_each l) = written_height ds l
  written_height ds (Term.part_of fs) = highest (expanded_fields ds fs)
  written_height ds (Term.inv_of l) = written_height ds l
  written_height ds (Term.named_lens n) = 0

  pub rows_written : Definitions → Term.TermRows → ℕ
  rows_written ds Term.no_rows = 0
  rows_written ds (Term.both a b l rows) = max (written_height ds l) (rows_written ds rows)
  rows_written ds (Term.only_left a t rows) = max (height (expanded_type ds t)) (rows_written ds rows)
  rows_written ds (Term.only_right b t rows) = max (height (expanded_type ds t)) (rows_written ds rows)

  pub arms_written : Definitions → Term.TermArms → ℕ
  arms_written ds Term.no_arms = 0
  arms_written ds (Term.more_arms a b l arms) = max (written_height ds l) (arms_written ds arms)

-- too many parts; too high
abbrev pub size_failure : ℕ → Option Failure
size_failure parts = if nat_le parts MOST_PARTS then None else Some too_large

abbrev pub height_failure : ℕ → Option Failure
height_failure levels = if nat_le levels GREATEST_HEIGHT then None else Some too_deep

-- a definition: its parts are counted, then its heights are tested, then its nodes
abbrev pub def_failure : Definitions → Term.DefTree → Option Failure
def_failure ds (Term.type_def t) =
    option_or (size_failure (type_parts (expanded_type ds t)))
    (option_or (height_failure (height (expanded_type ds t))) (type_failure t))
def_failure ds (Term.lens_def l) =
    option_or (size_failure (form_parts (expanded_form ds l)))
    (option_or (height_failure (form_height (expanded_form ds l)))
    (option_or (height_failure (written_height ds l)) (lens_failure ds l)))

-- definitions in written order, each with what the earlier ones stand for, and the main lens last
abbrev pub failure_after : Definitions → List (List ℕ × Term.DefTree) → Term.LensTree → Option Failure
failure_after ds [] main = def_failure ds (Term.lens_def main)
failure_after ds (d ∷ rest) main =
    option_or (def_failure ds d.1) (failure_after (ds ++ (d.0, known_of ds d.1) ∷ []) rest main)

abbrev pub first_failure : Term.ProgramTree → Option Failure
first_failure p = failure_after [] p.definitions p.main
