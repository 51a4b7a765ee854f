-- How many levels types and lenses have, which falls with each part: measures for what recurses over them.
use Rattle.std.proofs.Common.{◌≡◌, ℕ, zero, suc, ◌+◌, ◌<◌, ◌≤◌, List, [], ◌∷◌, map, length, get_or, ap, arith}
use Rattle.std.specs.Prelude.{max}
use Rattle.program_terms.specs.Terms.{TypeTree, TermFields, unit, bool, int, text, enum_of, record_of, one_of, list, keyed, tree, named, no_fields, more_fields, term_fields_of, LensTree, TermRows, TermArms, id_of, bij_of, disc_of, then_of, rec_lens, alt_lens, each_of, keyed_each, tree_each, part_of, inv_of, named_lens, no_rows, both, only_left, only_right, no_arms, more_arms, RowTree, row_both, row_left, row_right, with_row, term_rows_of, term_arms_of}
use Rattle.program_terms.specs.Views.{type_tree, field_tree, lens_tree, row_tree, arm_tree}
use Rattle.program_terms.specs.declared.types.TyExpr.{TyExpr}
use Rattle.program_terms.specs.declared.lens.Lens.{Lens}
use Rattle.program_terms.specs.declared.lens.Row.{Row}

-- ---- types

abbrev mutual
  pub type_levels : TypeTree → ℕ
  type_levels unit = 1
  type_levels bool = 1
  type_levels (int z) = 1
  type_levels (text s) = 1
  type_levels (enum_of ms v) = 1
  type_levels (record_of fs) = field_levels fs + 1
  type_levels (one_of fs) = field_levels fs + 1
  type_levels (list t) = type_levels t + 1
  type_levels (keyed t) = type_levels t + 1
  type_levels (tree t) = type_levels t + 1
  type_levels (named n) = 1

  pub field_levels : TermFields → ℕ
  field_levels no_fields = 0
  field_levels (more_fields n t fs) = max (type_levels t) (field_levels fs)

field_at : (fs : List (List ℕ × TyExpr)) (i : ℕ) (f : List ℕ × TyExpr) → i < length fs → type_levels (type_tree (get_or fs i f).1) ≤ field_levels (term_fields_of (map field_tree fs))
field_at [] i f h = absurd (omega arith)
field_at (x ∷ fs) zero f h = omega arith
field_at (x ∷ fs) (suc i) f h = omega (arith, field_at fs i f (omega arith))

-- the type of a field has no more levels than the fields
pub field_within : (fs : List (List ℕ × TyExpr)) (i : ℕ) (f : List ℕ × TyExpr) → i < length fs → f ≡ get_or fs i f
    → type_levels (type_tree f.1) ≤ field_levels (term_fields_of (map field_tree fs))
field_within fs i f h is = let e = ap (λ (g : List ℕ × TyExpr). type_levels (type_tree g.1)) is in omega (arith, e, field_at fs i f h)

-- ---- lenses; the types in them count for nothing

abbrev mutual
  pub lens_levels : LensTree → ℕ
  lens_levels (id_of t) = 1
  lens_levels (bij_of ps v) = 1
  lens_levels (disc_of t u) = 1
  lens_levels (then_of l k) = max (lens_levels l) (lens_levels k) + 1
  lens_levels (rec_lens rows) = row_levels rows + 1
  lens_levels (alt_lens arms) = arm_levels arms + 1
  lens_levels (each_of l) = lens_levels l + 1
  lens_levels (keyed_each l) = lens_levels l + 1
  lens_levels (tree_each l) = lens_levels l + 1
  lens_levels (part_of fs) = 1
  lens_levels (inv_of l) = lens_levels l + 1
  lens_levels (named_lens n) = 1

  pub row_levels : TermRows → ℕ
  row_levels no_rows = 0
  row_levels (both a b l rows) = max (lens_levels l) (row_levels rows)
  row_levels (only_left a t rows) = row_levels rows
  row_levels (only_right a t rows) = row_levels rows

  pub arm_levels : TermArms → ℕ
  arm_levels no_arms = 0
  arm_levels (more_arms a b l arms) = max (lens_levels l) (arm_levels arms)

-- the lens of one row
abbrev pub levels_of_row : RowTree → ℕ
levels_of_row (row_both a b l) = lens_levels l
levels_of_row (row_left a t) = 0
levels_of_row (row_right a t) = 0

first_row : (r : RowTree) (rows : TermRows) → row_levels (with_row r rows) ≡ max (levels_of_row r) (row_levels rows)
first_row (row_both a b l) rows = omega arith
first_row (row_left a t) rows = omega arith
first_row (row_right a t) rows = omega arith

row_at : (rows : List Row) (i : ℕ) (r : Row) → i < length rows → levels_of_row (row_tree (get_or rows i r)) ≤ row_levels (term_rows_of (map row_tree rows))
row_at [] i r h = absurd (omega arith)
row_at (x ∷ rows) zero r h = let e = first_row (row_tree x) (term_rows_of (map row_tree rows)) in omega (arith, e)
row_at (x ∷ rows) (suc i) r h = let e = first_row (row_tree x) (term_rows_of (map row_tree rows)) in omega (arith, e, row_at rows i r (omega arith))

-- the lens of a row has no more levels than the rows
pub row_within : (rows : List Row) (i : ℕ) (r : Row) → i < length rows → r ≡ get_or rows i r → levels_of_row (row_tree r) ≤ row_levels (term_rows_of (map row_tree rows))
row_within rows i r h is = let e = ap (λ s. levels_of_row (row_tree s)) is in omega (arith, e, row_at rows i r h)

arm_at : (arms : List (List ℕ × List ℕ × Lens)) (i : ℕ) (a : List ℕ × List ℕ × Lens) → i < length arms → lens_levels (lens_tree (get_or arms i a).2) ≤ arm_levels (term_arms_of (map arm_tree arms))
arm_at [] i a h = absurd (omega arith)
arm_at (x ∷ arms) zero a h = omega arith
arm_at (x ∷ arms) (suc i) a h = omega (arith, arm_at arms i a (omega arith))

-- the lens of an arm has no more levels than the arms
pub arm_within : (arms : List (List ℕ × List ℕ × Lens)) (i : ℕ) (a : List ℕ × List ℕ × Lens) → i < length arms → a ≡ get_or arms i a
    → lens_levels (lens_tree a.2) ≤ arm_levels (term_arms_of (map arm_tree arms))
arm_within arms i a h is = let e = ap (λ (g : List ℕ × List ℕ × Lens). lens_levels (lens_tree g.2)) is in omega (arith, e, arm_at arms i a h)
