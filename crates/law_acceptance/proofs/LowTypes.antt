-- The heights of all types in a lens, and those that the checker tests: the types of both sides of each node, and the types that
-- are written.
use Rattle.std.proofs.Common.{◌≡◌, ℕ, ◌≤◌, Bool, true, false, List, [], ◌∷◌, Option, Some, None, arith}
use Rattle.std.specs.Prelude.{bytes_eq, nat_le, max, if◌then◌else◌}
use Rattle.std.specs.List.{AllByRecursion}
use Rattle.texts.proofs.Conjunction.{first as first_and, second as second_and}
use Rattle.doc_values.specs.Types.{FieldTrees, no_fields, more_fields, height, highest}
use Rattle.program_terms.specs.Terms as Term
use Rattle.lens_forms.specs.Forms.{FormTree, form_id, form_bij, form_disc, form_then, form_rec, form_alt, form_each, form_keyed, form_ordered, form_part, form_inv, ArmTrees, no_arms, more_arms, left_type, right_type}
use Rattle.lens_forms.specs.declared.limits.TheConstants.{GREATEST_HEIGHT}
use Rattle.lens_types.specs.Earlier.{KnownTree, known_type, known_lens, Definitions, known, form_of_known, form_named, alternatives_form, partition, expanded_type, expanded_fields, expanded_form, expanded_rows, expanded_arms}
use Rattle.lens_types.specs.Checking.{type_failure, lens_failure, rows_failure, arms_failure, written_height, rows_written, arms_written}
use Rattle.lens_types.proofs.SoundForms.{none_both, are_sound, lens_low}
use Rattle.law_acceptance.specs.Acceptable.{HasLowSides, HasLowTypes, RowsHaveLowTypes, ArmsHaveLowTypes}
use Rattle.std.proofs.lemmas.Bool.{leb-true}

first_max : (a b c : ℕ) → max a b ≤ c → a ≤ c
first_max a b c h = omega arith

second_max : (a b c : ℕ) → max a b ≤ c → b ≤ c
second_max a b c h = omega arith

two_max : (a b c : ℕ) → a ≤ c → b ≤ c → max a b ≤ c
two_max a b c h k = omega arith

-- ---- earlier lenses have low types

abbrev pub HasLowMeaning : KnownTree → Type 0
HasLowMeaning (known_type t) = Unit {0}
HasLowMeaning (known_lens f) = HasLowTypes f

named-step : (b : Bool) (k : KnownTree) (rest : Option KnownTree) → HasLowMeaning k → HasLowTypes (form_of_known rest)
    → HasLowTypes (form_of_known (if b then Some k else rest))
named-step true (known_type t) rest h r = ((omega arith, omega arith), omega arith)
named-step true (known_lens f) rest h r = h
named-step false k rest h r = r

named_low : (ds : Definitions) (n : List ℕ) → AllByRecursion (λ d. HasLowMeaning d.1) ds → HasLowTypes (form_named ds n)
named_low [] n h = ((omega arith, omega arith), omega arith)
named_low (d ∷ ds) n h = named-step (bytes_eq n d.0) d.1 (known ds n) h.0 (named_low ds n h.1)

-- ---- the sides of a form are among its types

pub own_sides : (f : FormTree) → HasLowTypes f → HasLowSides f
own_sides (form_id t) low = low.0
own_sides (form_bij ps n) low = low
own_sides (form_disc t u) low = low.0
own_sides (form_then l k) low = low.0
own_sides (form_rec rows) low = low.0
own_sides (form_alt arms) low = low.0
own_sides (form_each l) low = low.0
own_sides (form_keyed l) low = low.0
own_sides (form_ordered l) low = low.0
own_sides (form_part fs) low = low.0
own_sides (form_inv l) low = low.0

-- ---- a lens without a failure, whose written types are low, has low types

sides : (ds : Definitions) → are_sound ds ≡ true → (l : Term.LensTree) → lens_failure ds l ≡ None → HasLowSides (expanded_form ds l)
sides ds s l h =
    let f = expanded_form ds l in
    let low = lens_low ds s l h in (
      leb-true (height (left_type f)) GREATEST_HEIGHT (first_and (nat_le (height (left_type f)) GREATEST_HEIGHT) (nat_le (height (right_type f)) GREATEST_HEIGHT) low),
      leb-true (height (right_type f)) GREATEST_HEIGHT (second_and (nat_le (height (left_type f)) GREATEST_HEIGHT) (nat_le (height (right_type f)) GREATEST_HEIGHT) low),
    )

with_arms : (arms : ArmTrees) → HasLowSides (alternatives_form arms) → ArmsHaveLowTypes arms → HasLowTypes (alternatives_form arms)
with_arms no_arms s low = (s, tt)
with_arms (more_arms a b l arms) s low = (s, low)

with_tags : (fs : FieldTrees) → HasLowSides (partition fs) → highest fs ≤ GREATEST_HEIGHT → HasLowTypes (partition fs)
with_tags no_fields s low = (s, tt)
with_tags (more_fields n t fs) s low = (s, low)

mutual
  pub low_types : (ds : Definitions) → are_sound ds ≡ true → AllByRecursion (λ d. HasLowMeaning d.1) ds → (l : Term.LensTree)
      → lens_failure ds l ≡ None → written_height ds l ≤ GREATEST_HEIGHT → HasLowTypes (expanded_form ds l)
  low_types ds s low (Term.id_of t) h w = (sides ds s (Term.id_of t) h, w)
  low_types ds s low (Term.bij_of ps v) h w = sides ds s (Term.bij_of ps v) h
  low_types ds s low (Term.disc_of t u) h w = (
    sides ds s (Term.disc_of t u) h,
    first_max (height (expanded_type ds t)) (height (expanded_type ds u)) GREATEST_HEIGHT w,
    second_max (height (expanded_type ds t)) (height (expanded_type ds u)) GREATEST_HEIGHT w,
  )
  low_types ds s low (Term.then_of l k) h w =
      let first = none_both (lens_failure ds l) _ h in
      let second = none_both (lens_failure ds k) _ first.1 in (
        sides ds s (Term.then_of l k) h,
        low_types ds s low l first.0 (first_max (written_height ds l) (written_height ds k) GREATEST_HEIGHT w),
        low_types ds s low k second.0 (second_max (written_height ds l) (written_height ds k) GREATEST_HEIGHT w),
      )
  low_types ds s low (Term.rec_lens rows) h w = (sides ds s (Term.rec_lens rows) h, low_rows ds s low rows (none_both (rows_failure ds rows) _ h).0 w)
  low_types ds s low (Term.alt_lens arms) h w =
      with_arms (expanded_arms ds arms) (sides ds s (Term.alt_lens arms) h) (low_arms ds s low arms (none_both (arms_failure ds arms) _ h).0 w)
  low_types ds s low (Term.each_of l) h w = (sides ds s (Term.each_of l) h, low_types ds s low l (none_both (lens_failure ds l) _ h).0 w)
  low_types ds s low (Term.keyed_each l) h w = (sides ds s (Term.keyed_each l) h, low_types ds s low l (none_both (lens_failure ds l) _ h).0 w)
  low_types ds s low (Term.tree_each l) h w = (sides ds s (Term.tree_each l) h, low_types ds s low l (none_both (lens_failure ds l) _ h).0 w)
  low_types ds s low (Term.part_of fs) h w = with_tags (expanded_fields ds fs) (sides ds s (Term.part_of fs) h) w
  low_types ds s low (Term.inv_of l) h w = (sides ds s (Term.inv_of l) h, low_types ds s low l (none_both (lens_failure ds l) _ h).0 w)
  low_types ds s low (Term.named_lens n) h w = named_low ds n low

  low_rows : (ds : Definitions) → are_sound ds ≡ true → AllByRecursion (λ d. HasLowMeaning d.1) ds → (rows : Term.TermRows)
      → rows_failure ds rows ≡ None → rows_written ds rows ≤ GREATEST_HEIGHT → RowsHaveLowTypes (expanded_rows ds rows)
  low_rows ds s low Term.no_rows h w = tt
  low_rows ds s low (Term.both a b l rows) h w =
      let none = none_both (lens_failure ds l) (rows_failure ds rows) h in (
        low_types ds s low l none.0 (first_max (written_height ds l) (rows_written ds rows) GREATEST_HEIGHT w),
        low_rows ds s low rows none.1 (second_max (written_height ds l) (rows_written ds rows) GREATEST_HEIGHT w),
      )
  low_rows ds s low (Term.only_left a t rows) h w = (
    first_max (height (expanded_type ds t)) (rows_written ds rows) GREATEST_HEIGHT w,
    low_rows ds s low rows (none_both (type_failure t) (rows_failure ds rows) h).1 (second_max (height (expanded_type ds t)) (rows_written ds rows) GREATEST_HEIGHT w),
  )
  low_rows ds s low (Term.only_right b t rows) h w = (
    first_max (height (expanded_type ds t)) (rows_written ds rows) GREATEST_HEIGHT w,
    low_rows ds s low rows (none_both (type_failure t) (rows_failure ds rows) h).1 (second_max (height (expanded_type ds t)) (rows_written ds rows) GREATEST_HEIGHT w),
  )

  low_arms : (ds : Definitions) → are_sound ds ≡ true → AllByRecursion (λ d. HasLowMeaning d.1) ds → (arms : Term.TermArms)
      → arms_failure ds arms ≡ None → arms_written ds arms ≤ GREATEST_HEIGHT → ArmsHaveLowTypes (expanded_arms ds arms)
  low_arms ds s low Term.no_arms h w = tt
  low_arms ds s low (Term.more_arms a b l arms) h w =
      let none = none_both (lens_failure ds l) (arms_failure ds arms) h in (
        low_types ds s low l none.0 (first_max (written_height ds l) (arms_written ds arms) GREATEST_HEIGHT w),
        low_arms ds s low arms none.1 (second_max (written_height ds l) (arms_written ds arms) GREATEST_HEIGHT w),
      )

-- ---- the types that are written in a lens with low types are low

tags_low : (fs : FieldTrees) → HasLowTypes (partition fs) → highest fs ≤ GREATEST_HEIGHT
tags_low no_fields low = omega arith
tags_low (more_fields n t fs) low = low.1

arms_low : (arms : ArmTrees) → HasLowTypes (alternatives_form arms) → ArmsHaveLowTypes arms
arms_low no_arms low = tt
arms_low (more_arms a b l arms) low = low.1

mutual
  pub written_low : (ds : Definitions) (l : Term.LensTree) → HasLowTypes (expanded_form ds l) → written_height ds l ≤ GREATEST_HEIGHT
  written_low ds (Term.id_of t) low = low.1
  written_low ds (Term.bij_of ps v) low = omega arith
  written_low ds (Term.disc_of t u) low = two_max (height (expanded_type ds t)) (height (expanded_type ds u)) GREATEST_HEIGHT low.1 low.2
  written_low ds (Term.then_of l k) low =
      two_max (written_height ds l) (written_height ds k) GREATEST_HEIGHT (written_low ds l low.1) (written_low ds k low.2)
  written_low ds (Term.rec_lens rows) low = rows_low ds rows low.1
  written_low ds (Term.alt_lens arms) low = written_arms_low ds arms (arms_low (expanded_arms ds arms) low)
  written_low ds (Term.each_of l) low = written_low ds l low.1
  written_low ds (Term.keyed_each l) low = written_low ds l low.1
  written_low ds (Term.tree_each l) low = written_low ds l low.1
  written_low ds (Term.part_of fs) low = tags_low (expanded_fields ds fs) low
  written_low ds (Term.inv_of l) low = written_low ds l low.1
  written_low ds (Term.named_lens n) low = omega arith

  rows_low : (ds : Definitions) (rows : Term.TermRows) → RowsHaveLowTypes (expanded_rows ds rows) → rows_written ds rows ≤ GREATEST_HEIGHT
  rows_low ds Term.no_rows low = omega arith
  rows_low ds (Term.both a b l rows) low = two_max (written_height ds l) (rows_written ds rows) GREATEST_HEIGHT (written_low ds l low.0) (rows_low ds rows low.1)
  rows_low ds (Term.only_left a t rows) low = two_max (height (expanded_type ds t)) (rows_written ds rows) GREATEST_HEIGHT low.0 (rows_low ds rows low.1)
  rows_low ds (Term.only_right b t rows) low = two_max (height (expanded_type ds t)) (rows_written ds rows) GREATEST_HEIGHT low.0 (rows_low ds rows low.1)

  written_arms_low : (ds : Definitions) (arms : Term.TermArms) → ArmsHaveLowTypes (expanded_arms ds arms) → arms_written ds arms ≤ GREATEST_HEIGHT
  written_arms_low ds Term.no_arms low = omega arith
  written_arms_low ds (Term.more_arms a b l arms) low =
      two_max (written_height ds l) (arms_written ds arms) GREATEST_HEIGHT (written_low ds l low.0) (written_arms_low ds arms low.1)
