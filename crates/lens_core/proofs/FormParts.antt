-- A row and an arm have fewer parts than the rows and the arms that have them: what the recursion into them goes by.
use Rattle.std.proofs.Common.{◌≡◌, ℕ, zero, suc, ◌+◌, ◌<◌, List, [], ◌∷◌, length, map, get_or, arith}
use Rattle.lens_forms.specs.Forms.{RowTrees, FormRowTree, row_both, row_left, row_right, with_form_row, form_rows_of, row_tree, form_arms_of, arm_tree, form_tree}
use Rattle.lens_forms.specs.Measures.{type_parts, form_parts, rows_parts, arms_parts}
use Rattle.lens_forms.specs.declared.form.Form.{Form}
use Rattle.lens_forms.specs.declared.form.FormRow.{FormRow}

-- the parts of one row
abbrev pub row_parts : FormRowTree → ℕ
row_parts (row_both a b l) = form_parts l
row_parts (row_left a t) = type_parts t
row_parts (row_right b t) = type_parts t

with_row-parts : (r : FormRowTree) (rows : RowTrees) → rows_parts (with_form_row r rows) ≡ row_parts r + 1 + rows_parts rows
with_row-parts (row_both a b l) rows = omega arith
with_row-parts (row_left a t) rows = omega arith
with_row-parts (row_right b t) rows = omega arith

pub row_smaller : (rows : List FormRow) (i : ℕ) (r : FormRow) → i < length rows → r ≡ get_or rows i r
    → row_parts (row_tree r) < rows_parts (form_rows_of (map row_tree rows))
row_smaller [] i r h e = absurd (omega arith)
row_smaller (q ∷ rows) zero r h e = rw e (omega (arith, with_row-parts (row_tree q) (form_rows_of (map row_tree rows))))
row_smaller (q ∷ rows) (suc i) r h e =
    let rest : row_parts (row_tree r) < rows_parts (form_rows_of (map row_tree rows)) = row_smaller rows i r (omega arith) e in
    omega (arith, with_row-parts (row_tree q) (form_rows_of (map row_tree rows)))

pub arm_smaller : (arms : List (List ℕ × List ℕ × Form)) (a : List ℕ × List ℕ × Form) → 0 < length arms → a ≡ get_or arms 0 a
    → form_parts (form_tree a.2) < arms_parts (form_arms_of (map arm_tree arms))
arm_smaller [] a h e = absurd (omega arith)
arm_smaller (b ∷ arms) a h e = rw e (omega arith)
