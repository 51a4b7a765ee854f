-- An element takes fewer steps than the list that has it.
use Rattle.std.proofs.Common.{◌≡◌, ℕ, zero, suc, ◌+◌, ◌<◌, ◌≤◌, List, [], ◌∷◌, length, map, get_or, arith}
use Rattle.program_terms.specs.Terms.{term_fields_of, LensTree, id_of, bij_of, disc_of, then_of, rec_lens, alt_lens, each_of, keyed_each, tree_each, part_of, inv_of, named_lens, RowTree, row_both, row_left, row_right, TermRows, with_row, term_rows_of, term_arms_of}
use Rattle.program_terms.specs.Views.{type_tree, field_tree, lens_tree, row_tree, arm_tree}
use Rattle.program_terms.specs.declared.types.TyExpr.{TyExpr}
use Rattle.program_terms.specs.declared.lens.Lens.{Lens}
use Rattle.program_terms.specs.declared.lens.Row.{Row}
use Rattle.lens_types.specs.Sizes.{type_size, fields_size, lens_size, rows_size, arms_size, row_size}

-- ---- an element is smaller than the list that has it

pub field_smaller : (fs : List (List ℕ × TyExpr)) (i : ℕ) (f : List ℕ × TyExpr) → i < length fs → f ≡ get_or fs i f
    → type_size (type_tree f.1) < fields_size (term_fields_of (map field_tree fs))
field_smaller [] i f h e = absurd (omega arith)
field_smaller (g ∷ fs) zero f h e = rw e (omega arith)
field_smaller (g ∷ fs) (suc i) f h e =
    let rest : type_size (type_tree f.1) < fields_size (term_fields_of (map field_tree fs)) = field_smaller fs i f (omega arith) e in
    omega arith

term_row-size : (r : RowTree) (rows : TermRows) → rows_size (with_row r rows) ≡ row_size r + rows_size rows + 1
term_row-size (row_both a b l) rows = omega arith
term_row-size (row_left a t) rows = omega arith
term_row-size (row_right b t) rows = omega arith

pub row_smaller : (rows : List Row) (i : ℕ) (r : Row) → i < length rows → r ≡ get_or rows i r
    → row_size (row_tree r) < rows_size (term_rows_of (map row_tree rows))
row_smaller [] i r h e = absurd (omega arith)
row_smaller (q ∷ rows) zero r h e = rw e (omega (arith, term_row-size (row_tree q) (term_rows_of (map row_tree rows))))
row_smaller (q ∷ rows) (suc i) r h e =
    let rest : row_size (row_tree r) < rows_size (term_rows_of (map row_tree rows)) = row_smaller rows i r (omega arith) e in
    omega (arith, term_row-size (row_tree q) (term_rows_of (map row_tree rows)))

pub arm_smaller : (arms : List (List ℕ × List ℕ × Lens)) (i : ℕ) (a : List ℕ × List ℕ × Lens) → i < length arms → a ≡ get_or arms i a
    → lens_size (lens_tree a.2) < arms_size (term_arms_of (map arm_tree arms))
arm_smaller [] i a h e = absurd (omega arith)
arm_smaller (b ∷ arms) zero a h e = rw e (omega arith)
arm_smaller (b ∷ arms) (suc i) a h e =
    let rest : lens_size (lens_tree a.2) < arms_size (term_arms_of (map arm_tree arms)) = arm_smaller arms i a (omega arith) e in
    omega arith

-- ---- a walk over a lens takes at least one step

pub lens_size-positive : (l : LensTree) → 1 ≤ lens_size l
lens_size-positive (id_of t) = omega arith
lens_size-positive (bij_of ps v) = omega arith
lens_size-positive (disc_of t u) = omega arith
lens_size-positive (then_of l k) = omega arith
lens_size-positive (rec_lens rows) = omega arith
lens_size-positive (alt_lens arms) = omega arith
lens_size-positive (each_of l) = omega arith
lens_size-positive (keyed_each l) = omega arith
lens_size-positive (tree_each l) = omega arith
lens_size-positive (part_of fs) = omega arith
lens_size-positive (inv_of l) = omega arith
lens_size-positive (named_lens n) = omega arith
