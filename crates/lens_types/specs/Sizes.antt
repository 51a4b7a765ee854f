-- For the proofs that the checker ends: how many steps a walk over a type or a lens takes at most.
use Rattle.std.specs.Prelude.{ℕ, ◌+◌}
use Rattle.program_terms.specs.Terms.{TypeTree, unit, bool, int, text, enum_of, record_of, one_of, list, keyed, tree}
use Rattle.program_terms.specs.Terms.{named, TermFields, no_fields, more_fields, LensTree, id_of, bij_of, disc_of}
use Rattle.program_terms.specs.Terms.{then_of, rec_lens, alt_lens, each_of, keyed_each, tree_each, part_of, inv_of}
use Rattle.program_terms.specs.Terms.{named_lens, RowTree, row_both, row_left, row_right, TermRows, no_rows, both}
use Rattle.program_terms.specs.Terms.{only_left, only_right, TermArms, no_arms, more_arms}

abbrev mutual
  pub type_size : TypeTree → ℕ
  type_size unit = 1
  type_size bool = 1
  type_size (int z) = 1
  type_size (text s) = 1
  type_size (enum_of ms v) = 1
  type_size (record_of fs) = fields_size fs + 1
  type_size (one_of fs) = fields_size fs + 1
  type_size (list t) = type_size t + 1
  type_size (keyed t) = type_size t + 1
  type_size (tree t) = type_size t + 1
  type_size (named n) = 1

  pub fields_size : TermFields → ℕ
  fields_size no_fields = 0
  fields_size (more_fields n t fs) = type_size t + fields_size fs + 1

abbrev mutual
  pub lens_size : LensTree → ℕ
  lens_size (id_of t) = 1
  lens_size (bij_of ps v) = 1
  lens_size (disc_of t u) = 1
  lens_size (then_of l k) = lens_size l + lens_size k + 1
  lens_size (rec_lens rows) = rows_size rows + 1
  lens_size (alt_lens arms) = arms_size arms + 1
  lens_size (each_of l) = lens_size l + 1
  lens_size (keyed_each l) = lens_size l + 1
  lens_size (tree_each l) = lens_size l + 1
  lens_size (part_of fs) = 1
  lens_size (inv_of l) = lens_size l + 1
  lens_size (named_lens n) = 1

  pub rows_size : TermRows → ℕ
  rows_size no_rows = 0
  rows_size (both a b l rows) = lens_size l + rows_size rows + 2
  rows_size (only_left a t rows) = rows_size rows + 2
  rows_size (only_right b t rows) = rows_size rows + 2

  pub arms_size : TermArms → ℕ
  arms_size no_arms = 0
  arms_size (more_arms a b l arms) = lens_size l + arms_size arms + 1

-- one row, which takes a step of its own
abbrev pub row_size : RowTree → ℕ
row_size (row_both a b l) = lens_size l + 1
row_size (row_left a t) = 1
row_size (row_right b t) = 1
